-- Laws on what is written of an input, a line after another.
-- Assumes nothing.
use Rattle.std.proofs.Common.{◌≡◌, ℕ, ◌+◌, ◌-◌, ◌<◌, ◌≤◌, suc, nat_lt, Bool, cond, not, true, false, List, [], ◌∷◌, ◌++◌}
use Rattle.std.proofs.Common.{length, take, drop, get_or, Option, None, Some, refl, sym, ap, arith}
use denote.Ref.{Bor}
use Rattle.std.specs.List.{slice_split, position, position_or_len, onto_first, FoldsTo}
use Rattle.std.proofs.lemmas.List.Sums.{position_or_len_is}
use Rattle.std.proofs.lemmas.List.Splits.{slice_split_first}
use Rattle.std.proofs.lemmas.List.{length-drop}
use Rattle.std.proofs.Math.Seq.{take-length}
use Rattle.std.specs.Io.KnownBytes.{Appends}
use Rattle.std.proofs.KnownBytes.{Appends-trans}
use Rattle.magnetar_replay.specs.Text.{line_of}
use Rattle.magnetar_replay.specs.Replay.{is_break, is_copied, unless_known, LineReplayed, LineAdded}

module _ {Q : Type 0} (answers : Q → List ℕ → Bool → List ℕ → Q → Type 0) where
  -- a line was replayed, and known bytes grew by what was written of it
  abbrev pub LineGrows : Q → (line : List ℕ) → Q → (a b : Option (List ℕ)) → Type 0
  LineGrows p line q a b = (text : List ℕ) × LineReplayed answers p line text q × Appends a b text

  pub copied : (p : Q) (line : List ℕ) (a b c : Option (List ℕ)) → is_copied line ≡ true → Appends a b line → Appends b c (10 ∷ [])
      → LineGrows p line p a c
  copied p line a b c e f g = (line_of line, rw e (refl, refl), Appends-trans a b c line (10 ∷ []) f g)

  pub unknown : (p : Q) (line : List ℕ) (k : Bool) (q : Q) (a b c : Option (List ℕ)) → is_copied line ≡ false → k ≡ false
      → (text : List ℕ) × answers p line k text q × Appends a b text → Appends b c (unless_known k) → LineGrows p line q a c
  unknown p line k q a b c e n w g =
      (w.0 ++ unless_known k, rw e (k, w.0, w.1, refl), Appends-trans a b c w.0 (unless_known k) w.2 g)

  -- what is left of the lines, replayed from here on, ends where all of them do from the start; known bytes grew by what was written
  abbrev pub Replaying : Q → (lines : List (List ℕ)) → (a : Option (List ℕ)) → Q → (left : List (List ℕ)) → (b : Option (List ℕ)) → Type 0
  Replaying p₀ lines a p left b = (written : List ℕ)
      × ((t : Q × List ℕ) → FoldsTo (LineAdded answers) (p, written) left t → FoldsTo (LineAdded answers) (p₀, []) lines t)
      × Appends a b written

  pub goes-on : (p₀ : Q) (lines : List (List ℕ)) (a : Option (List ℕ)) (p : Q) (line : List ℕ) (here left : List (List ℕ)) (q : Q)
      → (b c : Option (List ℕ)) → here ≡ line ∷ left → Replaying p₀ lines a p here b → LineGrows p line q b c → Replaying p₀ lines a q left c
  goes-on p₀ lines a p line here left q b c e r g =
      (r.0 ++ g.0, (λ t f. r.1 t (rw e ((q, r.0 ++ g.0), (g.0, g.1, refl), f))), Appends-trans a b c r.0 g.0 r.2 g.2)

-- ---- where a list parts
-- how much is left of an input
abbrev pub size_left : Option (Bor (List ℕ)) → ℕ
size_left None = 0
size_left (Some rest) = suc (length rest.now)

-- what is left over of a list from its place n on
pub rest-of : (xs : List ℕ) (n : ℕ) → take (length xs - n) (drop n xs) ≡ drop n xs
rest-of xs n = rw (sym (length-drop n xs)) (take-length (drop n xs))

-- a list parts where a line break stands behind others that are none
pub parts-at : (xs : List ℕ) (i : ℕ)
    → (i < length xs) × (is_break (get_or xs i 0) ≡ true) × ((k : ℕ) → k < i → is_break (get_or xs k 0) ≡ false)
    → slice_split is_break xs ≡ take i xs ∷ slice_split is_break (drop (i + 1) xs)
parts-at xs i h =
    let e = position_or_len_is is_break xs i 0 (omega (arith, h.0)) h.2 (λ _. h.1) in
    rw e at (slice_split_first is_break xs 0 (rw e h.0))

one-part : (b : Bool) (x : ℕ) (xs : List ℕ) (parts : List (List ℕ)) (n : ℕ) → (length xs ≤ n → parts ≡ xs ∷ [])
    → suc (length xs) ≤ cond (not b) (1 + n) 0 → cond b ([] ∷ parts) (onto_first x parts) ≡ (x ∷ xs) ∷ []
one-part true x xs parts n all h = absurd (omega (arith, h))
one-part false x xs parts n all h = ap (onto_first x) (all (omega (arith, h)))

one-line : (xs : List ℕ) → length xs ≤ position_or_len is_break xs → slice_split is_break xs ≡ xs ∷ []
one-line [] h = refl
one-line (x ∷ xs) h = one-part (is_break x) x xs (slice_split is_break xs) (position_or_len is_break xs) (one-line xs) h

none-before : (n m : ℕ) → cond (nat_lt n m) (Some n) None ≡ None → m ≤ n
none-before n m e = grind arith

-- and is one part where none stands
pub parts-none : (xs : List ℕ) → position is_break xs ≡ None → slice_split is_break xs ≡ xs ∷ []
parts-none xs e = one-line xs (none-before _ _ e)
