-- The walk that lays the segments out: where it stands, and that it never goes back.
-- Assumes nothing.
use mathlib.Core.Path.{◌≡◌, refl, sym, ap, ◌∙◌}
use mathlib.Core.Bool.{Bool, true, false}
use mathlib.Core.List.{List, [], ◌∷◌, ◌++◌}
use Prim.Native.Nat.{ℕ, zero, suc, ◌+◌, ◌-◌, ◌*◌, ◌/◌, ◌^◌, ◌≤◌, ◌<◌}
use Rattle.std.specs.Int.{div_ceil, next_multiple_of}
use Rattle.std.proofs.lemmas.Nat.{div-mul-add}
use Prim.Native.Nat.{min, ◌%◌}
use native.Mathlib.Nat.{div-add-mod', mod_self, mod-eq_of_lt, mod-lt, le_refl, le_trans, lt_of_not-le, pow-suc, two-pow-succ}
use native.Mathlib.Numerals.{add-one}
use native.Mathlib.Omega.{arith}
use borrow.Author.Tests.{ltb-true, leb-true, leb-false, le-leb, lt-leb, ltb-false, eqb-true, eqb-false, eq-eqb, ne_eqb, not-false}
use lib.Dec.{eqb, ltb, leb}
use lib.ListN.{length, get_or, take, drop, drop_of_length-le}
use Rattle.std.proofs.lemmas.List.{get_or-take}
use Rattle.std.proofs.Common.{length-take}
use lib.Seq.{drop-cons}
use lib.Pow.{pow_mono}
use Rattle.magnetar_field.specs.Sizes.{log₂}
use Rattle.magnetar_field.proofs.Log2.{log₂-pow}
use Rattle.magnetar_layout.specs.Every.{every}
use Rattle.magnetar_layout.specs.Tests.{or_refuse, first_refusal, is_size, Sized, most_columns, most_witness, column_tests, layout_tests}
use Rattle.magnetar_layout.specs.Entries.{layout_refusal}
use Rattle.magnetar_layout.proofs.FirstRefusal.{first-refusal-clear}
use Rattle.magnetar_layout.proofs.SizeLaws.{sized, not-bad}
use Rattle.magnetar_layout.specs.Layout.{next_multiple, offsets_from, end_from, offsets, layout_end, is_length, LayoutFits}
use Rattle.magnetar_layout.proofs.EveryLaws.{both, every-at, every-tail, every_drop}

-- ---- half of a power of two
pub half-power : (w : ℕ) → 1 ≤ w → w ≤ 32768 → 2 * w ≡ 2 ^ log₂ (2 * w) → w ≡ 2 ^ log₂ w
half-power w l h e = go (log₂ (2 * w)) e
  where
    go : (k : ℕ) → 2 * w ≡ 2 ^ k → w ≡ 2 ^ log₂ w
    go zero e = absurd (omega arith)
    go (suc k) e =
        let p : w ≡ 2 ^ k = omega (arith, pow-suc 2 k) in
        let b : k < 64 = lt_of_not-le (λ b. omega (arith, pow_mono {i = 64} {j = k} b)) in
        p ∙ sym (rw (p, log₂-pow k b))

-- and twice one
double-power : (w : ℕ) → w ≤ 32768 → w ≡ 2 ^ log₂ w → 2 * w ≡ 2 ^ log₂ (2 * w)
double-power w h e =
    let k = log₂ w in
    let b : suc k < 64 = lt_of_not-le (λ b. omega (arith, pow_mono {i = 63} {j = k} (omega arith))) in
    let p : 2 * w ≡ 2 ^ suc k = omega (arith, pow-suc 2 k) in
    p ∙ sym (rw (p, log₂-pow (suc k) b))

same_test : (a b c d : ℕ) → (a ≡ b → c ≡ d) → (c ≡ d → a ≡ b) → eqb a b ≡ eqb c d
same_test a b c d f g = go (eqb a b) refl
  where
    go : (t : Bool) → eqb a b ≡ t → t ≡ eqb c d
    go true e = sym (eq-eqb c d (f (eqb-true a b e)))
    go false e = sym (ne_eqb c d (λ h. eqb-false a b e (g h)))

-- w is half of a column count
pub half-size : (w : ℕ) → is_size 1 most_witness w ≡ is_size 2 most_columns (2 * w)
unfolding is_size
half-size zero = refl
half-size (suc n) = go (leb (suc n) 32768) refl
  where
    go : (b : Bool) → leb (suc n) 32768 ≡ b → is_size 1 most_witness (suc n) ≡ is_size 2 most_columns (2 * suc n)
    go false e =
        let h = leb-false (suc n) 32768 e in
        rw (e, lt-leb (2 * suc n) 65536 (omega arith), le-leb 1 (suc n) (omega arith), le-leb 2 (2 * suc n) (omega arith))
    go true e =
        let h = leb-true (suc n) 32768 e in
        rw (
          e,
          le-leb 1 (suc n) (omega arith),
          le-leb 2 (2 * suc n) (omega arith),
          le-leb (2 * suc n) 65536 (omega arith),
        ) (same_test (suc n) (2 ^ log₂ (suc n)) (2 * suc n) (2 ^ log₂ (2 * suc n)) (double-power (suc n) h) (half-power (suc n) (omega arith) h))

-- ---- the next multiple
module _ (c n : ℕ) (pos : 0 < n) where
  pub next-least : c ≤ next_multiple c n
  unfolding next_multiple
  next-least = omega (arith, div-add-mod' (c + (n - 1)) n, mod-lt (c + (n - 1)) pos)

  pub next-most : next_multiple c n < c + n
  unfolding next_multiple
  next-most = omega (arith, div-add-mod' (c + (n - 1)) n)

-- std's words for it, and for the number of the place that it is
pub ceil-is : (c n : ℕ) → 0 < n → div_ceil c n ≡ (c + (n - 1)) / n
ceil-is c n h = go (c % n) refl
  where
    go : (r : ℕ) → c % n ≡ r → c / n + min 1 r ≡ (c + (n - 1)) / n
    go zero e =
        let k : c + (n - 1) ≡ c / n * n + (n - 1) = omega (arith, div-add-mod' c n) in
        rw (k, div-mul-add (c / n) n (n - 1) (omega arith)) (omega arith)
    go (suc r) e =
        let k : c + (n - 1) ≡ (c / n + 1) * n + r = omega (arith, div-add-mod' c n) in
        rw (k, div-mul-add (c / n + 1) n r (omega (arith, mod-lt c h))) (omega arith)

pub multiple-of-is : (c n : ℕ) → 0 < n → next_multiple_of c n ≡ next_multiple c n
unfolding next_multiple
multiple-of-is c n h = go (c % n) refl ∙ ap (λ (k : ℕ). k * n) (ceil-is c n h)
  where
    go : (r : ℕ) → c % n ≡ r → c + (n - r) % n ≡ div_ceil c n * n
    go zero e = let z : n - 0 ≡ n = omega arith in rw (e, z, mod_self n) (omega (arith, div-add-mod' c n))
    go (suc r) e =
        let s : n - suc r < n = omega arith in
        let m : min 1 (suc r) ≡ 1 = omega arith in
        rw (e, mod-eq_of_lt s, m) (omega (arith, div-add-mod' c n, mod-lt c h))

-- ---- a length
module _ (w n : ℕ) (e : is_length w n ≡ true) where
  pub length-pos : 0 < n
  unfolding is_length
  length-pos = ltb-true 0 n (both (ltb 0 n) _ e).0

  pub length_most : n ≤ w
  unfolding is_length
  length_most = leb-true n w (both (leb n w) _ (both (ltb 0 n) _ e).1).0

  pub length-power : n ≡ 2 ^ log₂ n
  unfolding is_length
  length-power = eqb-true n (2 ^ log₂ n) (both (leb n w) _ (both (ltb 0 n) _ e).1).1

-- each length of a layout of w columns
pub record Size (w n : ℕ) : Type 0 where
  pub least : 0 < n
  pub most : n ≤ w
  pub power : n ≡ 2 ^ log₂ n

-- n columns from o on, among w
pub record Inside (o n w : ℕ) : Type 0 where
  pub small : w ≤ 32768
  pub ends : o + n ≤ w

pub each-size : (w : ℕ) (ns : List ℕ) (i : ℕ) → every (is_length w) ns ≡ true → i < length ns → Size w (get_or ns i 0)
each-size w ns i e h =
    let t = every-at (is_length w) 0 ns i h e in
    let n = get_or ns i 0 in
    record { least = length-pos w n t; most = length_most w n t; power = length-power w n t }

-- ---- the walk
-- the end lies at c or later
pub end-least : (w c : ℕ) (ns : List ℕ) → every (is_length w) ns ≡ true → c ≤ end_from c ns
unfolding end_from
end-least w c [] e = le_refl c
end-least w c (n ∷ ns) e =
    let p : 0 < n = length-pos w n (every-at (is_length w) 0 (n ∷ ns) 0 (omega arith) e) in
    let l : c ≤ next_multiple c n = next-least c n p in
    let m : next_multiple c n + n ≤ end_from (next_multiple c n + n) ns = end-least w (next_multiple c n + n) ns (every-tail (is_length w) n ns e) in
    omega (arith, l, m)

-- after i segments the walk stands at c
pub record Laid (ns : List ℕ) (c i : ℕ) : Type 0 where
  pub ends : end_from c (drop i ns) ≡ layout_end ns
  pub places : offsets_from c (drop i ns) ≡ drop i (offsets ns)

pub laid-start : (ns : List ℕ) → Laid ns 0 0
unfolding layout_end offsets
laid-start ns = record { ends = refl; places = refl }

module _ (ns : List ℕ) (c i : ℕ) (l : Laid ns c i) (h : i < length ns) where
  abbrev n : ℕ
  n = get_or ns i 0

  unrolled : next_multiple c n ∷ offsets_from (next_multiple c n + n) (drop (suc i) ns) ≡ drop i (offsets ns)
  unfolding offsets_from
  unrolled = rw (drop-cons ns i 0) at l.places

  pub laid_more : Laid ns (next_multiple c n + n) (i + 1)
  unfolding end_from
  laid_more = record {
    ends = rw add-one (rw (drop-cons ns i 0) at l.ends);
    places = rw add-one (tail_of i (offsets ns) unrolled);
  }
    where
      tail_of : {x : ℕ} {xs : List ℕ} (i : ℕ) (s : List ℕ) → x ∷ xs ≡ drop i s → xs ≡ drop (suc i) s
      tail_of zero [] e = absurd (let z : ◌≡◌ {A = ℕ} 0 1 = cc in omega arith)
      tail_of zero (y ∷ s) e = cc
      tail_of (suc i) [] e = absurd (let z : ◌≡◌ {A = ℕ} 0 1 = cc in omega arith)
      tail_of (suc i) (y ∷ s) e = tail_of i s e

  pub laid-offset : next_multiple c n ≡ get_or (offsets ns) i 0
  laid-offset = head_of i (offsets ns) unrolled
    where
      head_of : {x : ℕ} {xs : List ℕ} (i : ℕ) (s : List ℕ) → x ∷ xs ≡ drop i s → x ≡ get_or s i 0
      head_of zero [] e = absurd (let z : ◌≡◌ {A = ℕ} 0 1 = cc in omega arith)
      head_of zero (y ∷ s) e = cc
      head_of (suc i) [] e = absurd (let z : ◌≡◌ {A = ℕ} 0 1 = cc in omega arith)
      head_of (suc i) (y ∷ s) e = head_of i s e

-- the first k lengths
pub taken : (ns : List ℕ) (k i : ℕ) → i < length (take k ns) → (i < length ns) × (get_or (take k ns) i 0 ≡ get_or ns i 0)
taken ns k i h =
    let l : (i < k) × (i < length ns) = (omega (arith, length-take {A = ℕ}), omega (arith, length-take {A = ℕ})) in
    (l.1, get_or-take k ns i 0 l.0)

offsets-from-length : (c : ℕ) (ns : List ℕ) → length (offsets_from c ns) ≡ length ns
unfolding offsets_from
offsets-from-length c [] = refl
offsets-from-length c (n ∷ ns) = ap suc (offsets-from-length (next_multiple c n + n) ns)

pub offsets-length : (ns : List ℕ) → length (offsets ns) ≡ length ns
unfolding offsets
offsets-length ns = offsets-from-length 0 ns

pub laid_end : (ns : List ℕ) (c i : ℕ) → Laid ns c i → length ns ≤ i → c ≡ layout_end ns
unfolding end_from
laid_end ns c i l h = rw (drop_of_length-le ns h) at l.ends

-- the walk never stands past the end
pub laid-within : (w : ℕ) (ns : List ℕ) (c i : ℕ) → Laid ns c i → every (is_length w) ns ≡ true → c ≤ layout_end ns
laid-within w ns c i l e = rw l.ends at (end-least w c (drop i ns) (every_drop (is_length w) i ns e))

-- ---- a segment lies within the layout
offset-from-within : (w c : ℕ) (ns : List ℕ) (i : ℕ) → every (is_length w) ns ≡ true → i < length ns
    → get_or (offsets_from c ns) i 0 + get_or ns i 0 ≤ end_from c ns
unfolding offsets_from end_from
offset-from-within w c [] i e h = absurd (omega arith)
offset-from-within w c (n ∷ ns) zero e h = end-least w (next_multiple c n + n) ns (every-tail (is_length w) n ns e)
offset-from-within w c (n ∷ ns) (suc i) e h =
    offset-from-within w (next_multiple c n + n) ns i (every-tail (is_length w) n ns e) (omega arith)

pub offset-within : (w : ℕ) (ns : List ℕ) (i : ℕ) → LayoutFits w ns → i < length ns → get_or (offsets ns) i 0 + get_or ns i 0 ≤ w
unfolding offsets layout_end
offset-within w ns i s h = le_trans (offset-from-within w 0 ns i s.lengths h) s.ends

-- ---- a layout that is not refused
pub sound : (w : ℕ) (ns : List ℕ) → layout_refusal w ns ≡ 0 → LayoutFits w ns
unfolding layout_refusal
sound w ns e =
    let k = (first-refusal-clear 0 (column_tests (2 * w) ++ layout_tests w ns) refl e).1 in
    let z = not-bad k.0 in
    record {
      small = omega (arith, z.high);
      power = half-power w (omega (arith, z.low)) (omega (arith, z.high)) z.power;
      lengths = not-false _ k.1.0;
      ends = ltb-false _ _ k.1.1.0;
    }

-- the same the other way round, as an answer's clause says it
pub fits : (w : ℕ) (ns : List ℕ) → 0 ≡ layout_refusal w ns → LayoutFits w ns
fits w ns e = sound w ns (sym e)

-- ---- the layout over half of m columns
-- a size that is a power of two of at least two is even
pub even-size : (m : ℕ) → Sized 2 most_columns m → 2 * (m / 2) ≡ m
even-size m z = go (log₂ m) z.power
  where
    go : (k : ℕ) → m ≡ 2 ^ k → 2 * (m / 2) ≡ m
    go zero e = absurd (omega (arith, z.low))
    go (suc k) e =
        let q : m ≡ 2 ^ k + 2 ^ k = e ∙ two-pow-succ k in
        let h : m / 2 ≡ 2 ^ k = omega (arith, q) in
        omega (arith, q, h)

-- where the columns are good, the layout's refusal is that of its own tests
pub layout-own : (m : ℕ) (ns : List ℕ) → is_size 2 most_columns m ≡ true → layout_refusal (m / 2) ns ≡ first_refusal 0 (layout_tests (m / 2) ns)
unfolding layout_refusal or_refuse
layout-own m ns h = rw (even-size m (sized 2 most_columns m h), h)
