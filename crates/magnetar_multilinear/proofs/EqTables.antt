-- The eq table, plain and from a start: its size, its entries, and how it grows by one variable.
-- Assumes nothing.
use mathlib.Core.Path.{◌≡◌, refl, sym, ap, ◌∙◌}
use mathlib.Core.Bool.{Bool, true, false}
use mathlib.Core.List.{List, [], ◌∷◌, map}
use Prim.Native.Nat.{ℕ, zero, suc, ◌-◌, ◌*◌, ◌/◌, ◌%◌, ◌^◌, ◌≤◌, ◌<◌}
use native.Mathlib.Nat.{pow-suc}
use native.Mathlib.Numerals.{sub-one}
use native.Mathlib.Omega.{arith}
use lib.Dec.{ltb, lit<}
use borrow.Author.Tests.{ltb-true, ltb-false}
use lib.ListN.{length, get_or, drop, replicate, length-map, drop_of_length-le, get_or-eq_default, get_or-map}
use lib.Seq.{drop-cons, ext_get_or}
use lib.Pow.{pow_pos}
use Rattle.magnetar_field.specs.Gf128.{◌⊕◌, ◌⊗◌}
use Rattle.magnetar_field.specs.Tabulate.{tabulate}
use Rattle.magnetar_multilinear.specs.EqTable.{eq_factor, odd, eq_at, eq_at_bits, eq_table, eq_table_from}
use Rattle.magnetar_multilinear.specs.Doubling.{doubled}
use Rattle.magnetar_field.proofs.Product.{⊗-comm, ⊗-assoc, ⊗-⊕, ⊗-one, one-⊗, ⊗-zero, zero-⊗, ⊗-lt}
use Rattle.magnetar_field.proofs.Tabulation.{tabulate-length, tabulate-get, tabulate-of}

pub eq_table-length : (p : List ℕ) → length (eq_table p) ≡ 2 ^ length p
unfolding eq_table
eq_table-length p = tabulate-length (eq_at p) (2 ^ length p)

pub eq_table-get : (p : List ℕ) (i : ℕ) → i < 2 ^ length p → get_or (eq_table p) i 0 ≡ eq_at p i
unfolding eq_table
eq_table-get p i h = tabulate-get (eq_at p) (2 ^ length p) i 0 h

pub eq_at-lt : (p : List ℕ) (i : ℕ) → eq_at p i < 2 ^ 128
unfolding eq_at
eq_at-lt [] i = lit< tt
eq_at-lt (r ∷ p) i = ⊗-lt (eq_factor r (odd i)) (eq_at p (i / 2))

pub eq_at-cons : (r : ℕ) (p : List ℕ) (i : ℕ) → eq_at (r ∷ p) i ≡ eq_factor r (odd i) ⊗ eq_at p (i / 2)
unfolding eq_at
eq_at-cons r p i = refl

-- ---- one variable more
doubled-length : (r : ℕ) (t : List ℕ) → length (doubled r t) ≡ 2 * length t
unfolding doubled
doubled-length r [] = refl
doubled-length r (v ∷ t) = omega (arith, doubled-length r t)

-- the two entries that v becomes are v times each factor
factor-one : (r v : ℕ) → v ⊗ r ≡ eq_factor r true ⊗ v
unfolding eq_factor
factor-one r v = ⊗-comm v r

factor-zero : (r v : ℕ) → v < 2 ^ 128 → v ⊕ v ⊗ r ≡ eq_factor r false ⊗ v
unfolding eq_factor
factor-zero r v h = sym (⊗-comm (1 ⊕ r) v ∙ ⊗-⊕ v 1 r ∙ ap (λ (x : ℕ). x ⊕ v ⊗ r) (⊗-one v h))

doubled-get : (r : ℕ) (t : List ℕ) (i : ℕ) → ((k : ℕ) → get_or t k 0 < 2 ^ 128) → i < 2 * length t
    → get_or (doubled r t) i 0 ≡ eq_factor r (odd i) ⊗ get_or t (i / 2) 0
unfolding doubled
doubled-get r [] i b h = absurd (omega arith)
doubled-get r (v ∷ t) zero b h = factor-zero r v (b 0)
doubled-get r (v ∷ t) (suc zero) b h = factor-one r v
doubled-get r (v ∷ t) (suc (suc i)) b h =
    let e : suc (suc i) / 2 ≡ suc (i / 2) = omega arith in
    let m : suc (suc i) % 2 ≡ i % 2 = omega arith in
    rw (e, m) (doubled-get r t i (λ k. b (suc k)) (omega arith))

pub eq_table-nil : eq_table [] ≡ 1 ∷ []
unfolding eq_table tabulate eq_at
eq_table-nil = refl

eq_table-lt : (p : List ℕ) (k : ℕ) → get_or (eq_table p) k 0 < 2 ^ 128
eq_table-lt p k = go (ltb k (2 ^ length p)) refl
  where
    go : (b : Bool) → ltb k (2 ^ length p) ≡ b → get_or (eq_table p) k 0 < 2 ^ 128
    go true e = rw (eq_table-get p k (ltb-true _ _ e)) (eq_at-lt p k)
    go false e = rw (get_or-eq_default (eq_table p) 0 {n = k} (rw eq_table-length (ltb-false k (2 ^ length p) e))) (pow_pos 128)

pub eq_table-cons : (r : ℕ) (p : List ℕ) → eq_table (r ∷ p) ≡ doubled r (eq_table p)
unfolding eq_table
eq_table-cons r p = sym (tabulate-of (doubled r (eq_table p)) (eq_at (r ∷ p)) (2 ^ suc (length p)) 0 (doubled-length r (eq_table p) ∙ size) at)
  where
    size : 2 * length (eq_table p) ≡ 2 ^ suc (length p)
    size = omega (arith, eq_table-length p, pow-suc 2 (length p))

    at : (i : ℕ) → i < 2 ^ suc (length p) → get_or (doubled r (eq_table p)) i 0 ≡ eq_at (r ∷ p) i
    at i h =
        doubled-get r (eq_table p) i (eq_table-lt p) (omega (arith, size))
        ∙ rw (eq_table-get p (i / 2) (omega (arith, pow-suc 2 (length p)))) (sym (eq_at-cons r p i))

-- ---- the table from a start
pub from-length : (c : ℕ) (p : List ℕ) → length (eq_table_from c p) ≡ 2 ^ length p
unfolding eq_table_from
from-length c p = rw length-map (eq_table-length p)

-- at every index, past the end too
pub from-get : (c : ℕ) (p : List ℕ) (k : ℕ) → get_or (eq_table_from c p) k 0 ≡ c ⊗ get_or (eq_table p) k 0
unfolding eq_table_from
from-get c p k = ap (get_or (map (λ e. c ⊗ e) (eq_table p)) k) (sym (⊗-zero c)) ∙ get_or-map (λ e. c ⊗ e) (eq_table p) k 0

pub from-nil : (c : ℕ) → c < 2 ^ 128 → eq_table_from c [] ≡ c ∷ []
unfolding eq_table_from
from-nil c h = rw (eq_table-nil, ⊗-one c h)

-- a level: the point's first element splits each entry, whatever the start
doubled-map : (c r : ℕ) (t : List ℕ) → map (λ e. c ⊗ e) (doubled r t) ≡ doubled r (map (λ e. c ⊗ e) t)
unfolding doubled
doubled-map c r [] = refl
doubled-map c r (v ∷ t) = rw (⊗-⊕ c v (v ⊗ r), ← ⊗-assoc c v r, doubled-map c r t)

pub from_cons : (c r : ℕ) (p : List ℕ) → eq_table_from c (r ∷ p) ≡ doubled r (eq_table_from c p)
unfolding eq_table_from
from_cons c r p = rw (eq_table-cons r p) (doubled-map c r (eq_table p))

-- from 1: the table itself
pub from_one : (p : List ℕ) → eq_table_from 1 p ≡ eq_table p
from_one p =
    ext_get_or 0 (eq_table_from 1 p) (eq_table p) (from-length 1 p ∙ sym (eq_table-length p))
    (λ k h. from-get 1 p k ∙ one-⊗ (get_or (eq_table p) k 0) (eq_table-lt p k))

-- from 0: zeros
pub from_zero : (p : List ℕ) → eq_table_from 0 p ≡ replicate (2 ^ length p) 0
unfolding eq_table_from
from_zero p = rw (← eq_table-length p) (zeros (eq_table p))
  where
    zeros : (t : List ℕ) → map (λ e. 0 ⊗ e) t ≡ replicate (length t) 0
    zeros [] = refl
    zeros (v ∷ t) = rw (zero-⊗ v, zeros t)

-- ---- eq at bits, the last variable first
pub eq_at_bits-none : (p : List ℕ) (bs : List Bool) (n : ℕ) → length p ≡ n → length bs ≡ n → eq_at_bits (drop n p) (drop n bs) ≡ 1
unfolding eq_at_bits
eq_at_bits-none p bs n e f = rw (drop_of_length-le p {i = n} (omega arith))

eq_at_bits-cons : (p : List ℕ) (bs : List Bool) (j : ℕ) → j < length p → j < length bs
    → eq_factor (get_or p j 0) (get_or bs j false) ⊗ eq_at_bits (drop (suc j) p) (drop (suc j) bs) ≡ eq_at_bits (drop j p) (drop j bs)
unfolding eq_at_bits
eq_at_bits-cons p bs j h g = rw (drop-cons p j 0 h, drop-cons bs j false g)

pub eq_at_bits-more : (p : List ℕ) (bs : List Bool) (j acc : ℕ) → 0 < j → j ≤ length p → j ≤ length bs → acc ≡ eq_at_bits (drop j p) (drop j bs)
    → eq_factor (get_or p (j - 1) 0) (get_or bs (j - 1) false) ⊗ acc ≡ eq_at_bits (drop (j - 1) p) (drop (j - 1) bs)
eq_at_bits-more p bs zero acc pos h g e = absurd (omega arith)
eq_at_bits-more p bs (suc j) acc pos h g e = rw (sub-one, e) (eq_at_bits-cons p bs j h g)
