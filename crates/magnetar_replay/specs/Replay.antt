-- An input of queries, a line each, and what is written of it.
-- Source: the form of the recorded answers (docs/VECTORS.md).
-- Assumes nothing.
use Rattle.std.specs.Prelude.{ℕ, ◌-◌, ◌≡◌, Bool, cond, List, [], ◌∷◌, ◌++◌, take, length, codes, slice_index, Option, None, Some, MatchBool, ◌==◌}
use denote.Ref.{Bor}
use Rattle.std.specs.List.{slice_split, FoldsTo}
use Rattle.magnetar_replay.specs.Text.{line_of}

-- ---- the input
-- a line break
abbrev pub is_break : ℕ → Bool
is_break c = c == 10

-- an input without the line break at its end, where there is one
abbrev pub without_last_break : List ℕ → List ℕ
without_last_break input = cond (is_break (slice_index input (length input - 1))) (take (length input - 1) input) input

-- the lines of an input; an empty one has none
abbrev pub input_lines : List ℕ → List (List ℕ)
input_lines [] = []
input_lines (c ∷ more) = slice_split is_break (without_last_break (c ∷ more))

-- a line that begins with # asks nothing and is copied
abbrev pub is_copied : List ℕ → Bool
is_copied line = slice_index line 0 == 35

-- ---- what is written
-- what follows a query's answer: nothing where it is known, else a line that says that nobody knows it
abbrev pub unless_known : Bool → List ℕ
unless_known known = cond known [] (line_of (codes "? unknown query"))

-- in place of all answers, where there is more to read than room for it
abbrev pub too_long_line : List ℕ
too_long_line = line_of (codes "input too long")

-- ---- queries of a type Q: where `answers p line known text q`, p may answer a line by a text, know its query or not, and become q
-- what p may write of a line, also of one that asks nothing
abbrev pub LineReplayed : {Q : Type 0} → (answers : Q → List ℕ → Bool → List ℕ → Q → Type 0) → Q → (line text : List ℕ) → Q → Type 0
LineReplayed answers p line text q = MatchBool (is_copied line)
    ((text ≡ line_of line) × (q ≡ p))
    ((known : Bool) × (answer : List ℕ) × answers p line known answer q × (text ≡ answer ++ unless_known known))

-- a line after others: what was written grows by its text
abbrev pub LineAdded : {Q : Type 0} → (Q → List ℕ → Bool → List ℕ → Q → Type 0)
    → Q × List ℕ → (line : List ℕ) → Q × List ℕ → Type 0
LineAdded answers p line q = (text : List ℕ) × LineReplayed answers p.0 line text q.0 × (q.1 ≡ p.1 ++ text)

-- what p may write of a whole input, of which at most `most` bytes were read: of each line in turn, where these are all of it
abbrev pub Replayed : {Q : Type 0} → (Q → List ℕ → Bool → List ℕ → Q → Type 0) → (most : ℕ) → Q → (input text : List ℕ) → Q → Type 0
Replayed answers most p input text q = MatchBool (length input == most)
    ((text ≡ too_long_line) × (q ≡ p))
    (FoldsTo (LineAdded answers) (p, []) (input_lines input) (q, text))

-- ---- what private contracts cite
-- the lines behind a line break, or none where there is no break
abbrev pub lines_behind : Option (Bor (List ℕ)) → List (List ℕ)
lines_behind None = []
lines_behind (Some rest) = slice_split is_break rest.now
