-- Texts and lines as they are written.
-- Assumes nothing.
use Rattle.std.proofs.Common.{◌≡◌, ◌^◌, ◌*◌, ◌+◌, ◌∙◌, sym, ap, ℕ, Bool, true, false, cond, List, [], ◌∷◌, ◌++◌, codes, bytes_eq, refl}
use Rattle.std.specs.Fmt.{digits}
use Rattle.magnetar_field.specs.Words.{words}
use Rattle.magnetar_replay.specs.Lists.{mark}
use Rattle.magnetar_replay.specs.Replay.{input_lines, is_copied, unless_known, LineReplayed, Replayed}
use Rattle.magnetar_replay.specs.Text.{line_of, listed_line, element_text, cleared_text}

pub listed : listed_line (1 ∷ (255 ∷ [])) ≡ line_of (codes "= 2 0x1 0xff")
unfolding digits
listed = refl

pub element : element_text (10 * 2 ^ 64 + 5) ≡ codes "2 0x5 0xa"
unfolding digits words
element = refl

pub cleared : cleared_text (0 ∷ (0 ∷ (mark ∷ (7 ∷ [])))) ≡ codes "4 2 1"
unfolding digits
cleared = refl

-- a line break at the end of an input ends its last line, and two in a row have an empty line between them
pub lines : input_lines (codes "a\n#b\n\nc\n") ≡ codes "a" ∷ (codes "#b" ∷ ([] ∷ (codes "c" ∷ [])))
lines = refl

pub no-lines : input_lines [] ≡ []
no-lines = refl

-- ---- whoever knows the query a alone, and counts what is asked
abbrev counts_a : ℕ → (line : List ℕ) → (known : Bool) → (text : List ℕ) → ℕ → Type 0
counts_a n line known text m = (known ≡ bytes_eq line (codes "a")) × (text ≡ cond known (line_of (codes "= b")) []) × (m ≡ n + 1)

-- what is written of a line that asks
asked : (n : ℕ) (line : List ℕ) (known : Bool) (text : List ℕ) (m : ℕ) → is_copied line ≡ false → bytes_eq line (codes "a") ≡ known
    → LineReplayed counts_a n line text m → (text ≡ cond known (line_of (codes "= b")) [] ++ unless_known known) × (m ≡ n + 1)
asked n line known text m e k r =
    let s = rw e at r in
    let w = s.2.0 ∙ k in
    (rw w at (rw s.2.1 at s.3), s.2.2)

-- writes these lines of this input, and no others
pub replayed : (text : List ℕ) (n : ℕ) → Replayed counts_a 100 0 (codes "a\n#c\nd\n") text n
    → (text ≡ codes "= b\n#c\n? unknown query\n") × (n ≡ 2)
replayed text n f =
    let first = f.1 in
    let on = f.2 in
    let second = on.1 in
    let last = on.2.1 in
    let a = asked 0 (codes "a") true first.0 f.0.0 refl refl first.1 in
    let d = asked on.0.0 (codes "d") false last.0 on.2.0.0 refl refl last.1 in
    let e = on.2.2 in (
      sym (ap (λ r. r.1) e) ∙ rw (last.2, d.0, second.2, second.1.0, first.2, a.0) refl,
      sym (ap (λ r. r.0) e) ∙ rw (d.1, second.1.1, a.1) refl,
    )
