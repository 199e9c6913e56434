-- No two relations as they are lent have the same bytes.
-- Assumes nothing.
use Rattle.std.proofs.Common.{◌≡◌, ℕ, zero, suc, ◌+◌, ◌*◌, ◌/◌, ◌%◌, ◌^◌, ◌<◌, List, [], ◌∷◌, ◌++◌, length, get_or, take, drop, sym, refl, ap, ◌∙◌, ap₂, append_assoc, div-add-mod', arith, take_at, drop_at, shr_lt}
use mathlib.Core.List.{flat_map}
use lib.Seq.{take-append_seam, drop-append_seam}
use Rattle.magnetar_hash.specs.Bytes.{le_bytes, number, word_bytes}
use Rattle.magnetar_hash.proofs.Bytes.{length-le, length-words}
use Rattle.magnetar_matrix.specs.Matrix.{Entry}
use Rattle.magnetar_relation.specs.declared.shapes.Shapes.{Shapes}
use Rattle.magnetar_relation.specs.Rules.{Rules}
use Rattle.magnetar_digest.specs.Digest.{system_numbers, entry_numbers, relation_numbers, relation_bytes, Same, OneRelation}

-- ---- the bytes of words give the words
join : (x n : ℕ) → n ≡ x / 256 → x % 256 + 256 * n ≡ x
join x n e = omega (arith, e)

number-le : (n x : ℕ) → x < 2 ^ (8 * n) → number (le_bytes n x) ≡ x
unfolding le_bytes number
number-le zero x h = omega arith
number-le (suc n) x h = join x (number (le_bytes n (x / 256))) (number-le n (x / 256) (lower n x h))
  where
    lower : (n x : ℕ) → x < 2 ^ (8 * suc n) → x / 256 < 2 ^ (8 * n)
    lower n x h =
        let e : 8 * suc n ≡ 8 * n + 8 = omega arith in
        shr_lt (8 * n) 8 (rw e at h)

-- the first word, and the others
first_word : (w : ℕ) (ws : List ℕ) → w < 2 ^ 64 → number (take 8 (word_bytes (w ∷ ws))) ≡ w
unfolding word_bytes
first_word w ws h = ap number (take_at (le_bytes 8 w) (word_bytes ws) 8 (length-le 8 w)) ∙ number-le 8 w h

other-words : (w : ℕ) (ws : List ℕ) → drop 8 (word_bytes (w ∷ ws)) ≡ word_bytes ws
unfolding word_bytes
other-words w ws = drop_at (le_bytes 8 w) (word_bytes ws) 8 (length-le 8 w)

none_or_some : (w : ℕ) (ws : List ℕ) → word_bytes [] ≡ word_bytes (w ∷ ws) → ⊥
none_or_some w ws e = omega (arith, length-words [], length-words (w ∷ ws), ap length e)

same-words
    : (a b : List ℕ) → ((i : ℕ) → get_or a i 0 < 2 ^ 64) → ((i : ℕ) → get_or b i 0 < 2 ^ 64) → word_bytes a ≡ word_bytes b → a ≡ b
same-words [] [] h k e = refl
same-words [] (y ∷ b) h k e = absurd (none_or_some y b e)
same-words (x ∷ a) [] h k e = absurd (none_or_some x a (sym e))
same-words (x ∷ a) (y ∷ b) h k e =
    ap₂ (λ (w : ℕ) (ws : List ℕ). w ∷ ws) (sym (first_word x a (h 0)) ∙ ap (λ (l : List ℕ). number (take 8 l)) e ∙ first_word y b (k 0))
    (same-words a b (λ i. h (suc i)) (λ i. k (suc i)) (sym (other-words x a) ∙ ap (drop 8) e ∙ other-words y b))

-- ---- the numbers give the relation: what is read off them
abbrev read_shapes : List ℕ → Shapes
read_shapes l =
    record {
      bin = record {
        a = record { rows = get_or l 0 0; cols = get_or l 1 0; entries = get_or l 2 0 };
        b = record { rows = get_or l 3 0; cols = get_or l 4 0; entries = get_or l 5 0 };
        c = record { rows = get_or l 6 0; cols = get_or l 7 0; entries = get_or l 8 0 };
      };
      fld = record {
        a = record { rows = get_or l 9 0; cols = get_or l 10 0; entries = get_or l 11 0 };
        b = record { rows = get_or l 12 0; cols = get_or l 13 0; entries = get_or l 14 0 };
        c = record { rows = get_or l 15 0; cols = get_or l 16 0; entries = get_or l 17 0 };
      };
    }

abbrev read_entry : List ℕ → Entry
read_entry l = record { row = get_or l 0 0; col = get_or l 1 0; value = get_or l 3 0 * 2 ^ 64 + get_or l 2 0 }

entry_read : (e : Entry) (l : List ℕ) → read_entry (entry_numbers e ++ l) ≡ e
entry_read e l = ap (λ (v : ℕ). record { row = e.row; col = e.col; value = v }) (div-add-mod' e.value (2 ^ 64))

same_entries : (es fs : List Entry) → flat_map entry_numbers es ≡ flat_map entry_numbers fs → es ≡ fs
unfolding flat_map
same_entries [] [] e = refl
same_entries [] (f ∷ fs) e = absurd (omega (arith, ap length e))
same_entries (x ∷ es) [] e = absurd (omega (arith, ap length e))
same_entries (x ∷ es) (f ∷ fs) e =
    ap₂ (λ (y : Entry) (l : List Entry). y ∷ l)
    (sym (entry_read x (flat_map entry_numbers es)) ∙ ap read_entry e ∙ entry_read f (flat_map entry_numbers fs)) (same_entries es fs (ap (drop 4) e))

same_numbers : (R R' : Rules) → relation_numbers R ≡ relation_numbers R' → Same R R'
unfolding relation_numbers
same_numbers R R' e =
    let b : List ℕ = system_numbers R.shapes.bin ++ system_numbers R.shapes.fld in
    let b' : List ℕ = system_numbers R'.shapes.bin ++ system_numbers R'.shapes.fld in
    let l : List ℕ = flat_map entry_numbers R.entries in
    let l' : List ℕ = flat_map entry_numbers R'.entries in
    let k : length R'.lengths ≡ length R.lengths = sym (ap (λ (x : List ℕ). get_or x 2 0) e) in
    let f : R.lengths ++ (b ++ l) ≡ R'.lengths ++ (b' ++ l') =
    sym (append_assoc R.lengths b l) ∙ ap (drop 3) e ∙ append_assoc R'.lengths b' l'
    in
    let g : b ++ l ≡ b' ++ l' =
    sym (drop-append_seam R.lengths (b ++ l))
    ∙ ap (drop (length R.lengths)) f
    ∙ drop_at R'.lengths (b' ++ l') (length R.lengths) k
    in
    record {
      columns = ap (λ (x : List ℕ). get_or x 0 0) e;
      logins = ap (λ (x : List ℕ). get_or x 1 0) e;
      layout =
          sym (take-append_seam R.lengths (b ++ l))
          ∙ ap (take (length R.lengths)) f
          ∙ take_at R'.lengths (b' ++ l') (length R.lengths) k;
      shapes = ap read_shapes g;
      entries = same_entries R.entries R'.entries (ap (drop 18) g);
    }

pub one-relation : OneRelation
unfolding relation_bytes
one-relation R R' h h' e = same_numbers R R' (same-words (relation_numbers R) (relation_numbers R') h h' e)
