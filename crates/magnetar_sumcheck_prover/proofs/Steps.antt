-- The pass over the pairs: where the entries of a pair stand, and the sums with one more pair.
-- Assumes nothing.
use mathlib.Core.Path.{◌≡◌, refl, sym, ap, ap₂, ◌∙◌}
use mathlib.Core.List.{List, [], ◌∷◌}
use Prim.Native.Nat.{ℕ, zero, suc, ◌+◌, ◌*◌, ◌/◌, ◌%◌, ◌^◌, ◌≤◌}
use native.Mathlib.Nat.{div-add-mod'}
use native.Mathlib.Numerals.{add-one}
use native.Mathlib.Omega.{arith}
use lib.ListN.{get_or}
use Rattle.magnetar_field.specs.Gf128.{value, ◌⊕◌}
use Rattle.magnetar_multilinear.specs.Multilinear.{insert_zero}
use Rattle.magnetar_field.proofs.Xor.{xor}
use Rattle.magnetar_sumcheck_prover.specs.declared.engine.Sums.{Sums}
use Rattle.magnetar_sumcheck_verifier.specs.Sum.{sum_below}
use Rattle.magnetar_sumcheck_prover.specs.Sums.{Summand, sums, summed}

-- ---- places
part-le : (i p : ℕ) → i / p * p ≤ i
part-le i p = omega (arith, div-add-mod' i p)

pub shifted-le : (i v b : ℕ) → b ≡ 2 ^ v → i / 2 ^ v * b ≤ i
shifted-le i v b e = rw e (part-le i (2 ^ v))

pub low-is : (i v b : ℕ) → b ≡ 2 ^ v → i + i / 2 ^ v * b ≡ insert_zero v i
unfolding insert_zero
low-is i v b e = rw e (go i (2 ^ v))
  where
    twice : (q p : ℕ) → q * (2 * p) ≡ q * p + q * p
    twice q p = omega arith

    go : (i p : ℕ) → i + i / p * p ≡ i / p * (2 * p) + i % p
    go i p = omega (arith, div-add-mod' i p, twice (i / p) p)

-- ---- sums
pub sum_more : (f : ℕ → ℕ) (n : ℕ) → sum_below (n + 1) f ≡ sum_below n f ⊕ f n
unfolding sum_below
sum_more f n = ap (λ (k : ℕ). sum_below k f) (add-one n)

pub sum-zero : (f : ℕ → ℕ) → sum_below 0 f ≡ 0
unfolding sum_below
sum-zero f = refl

pub sum-add : (f g : ℕ → ℕ) (n : ℕ) → sum_below n (λ i. f i ⊕ g i) ≡ sum_below n f ⊕ sum_below n g
unfolding sum_below
sum-add f g zero = sym (simp xor)
sum-add f g (suc n) = ap (λ (x : ℕ). x ⊕ (f n ⊕ g n)) (sum-add f g n) ∙ swap (sum_below n f) (sum_below n g) (f n) (g n)
  where
    swap : (a b c d : ℕ) → a ⊕ b ⊕ (c ⊕ d) ≡ a ⊕ c ⊕ (b ⊕ d)
    swap a b c d = simp xor

pub sum_same : (f g : ℕ → ℕ) (n : ℕ) → ((i : ℕ) → f i ≡ g i) → sum_below n f ≡ sum_below n g
unfolding sum_below
sum_same f g zero h = refl
sum_same f g (suc n) h = ap₂ ◌⊕◌ (sum_same f g n h) (h n)

triple : {a b c x y z : ℕ} → a ≡ x → b ≡ y → c ≡ z → ◌≡◌ {A = List ℕ} (a ∷ b ∷ c ∷ []) (x ∷ y ∷ z ∷ [])
triple p q r = λ i. p i ∷ q i ∷ r i ∷ []

one_more : (f : ℕ → ℕ) (n : ℕ) {x y : ℕ} → x ≡ sum_below n f → y ≡ x ⊕ f n → y ≡ sum_below (n + 1) f
one_more f n p q = q ∙ ap (λ (z : ℕ). z ⊕ f n) p ∙ sym (sum_more f n)

pub summed-start : (v : ℕ) (S : Summand) → 0 ∷ 0 ∷ 0 ∷ [] ≡ summed v S 0
unfolding summed sum_below
summed-start v S = refl

pub summed-more : (v i lo hi : ℕ) (S : Summand) (s t : Sums) → sums s ≡ summed v S i → lo ≡ insert_zero v i → hi ≡ insert_zero v i + 2 ^ v
    → value t.zero ≡ value s.zero ⊕ S.at i lo → value t.one ≡ value s.one ⊕ S.at i hi → value t.top ≡ value s.top ⊕ S.top i lo hi
    → sums t ≡ summed v S (i + 1)
unfolding sums summed
summed-more v i lo hi S s t h l k p q r = triple
    (one_more (λ j. S.at j (insert_zero v j)) i (ap (λ (m : List ℕ). get_or m 0 0) h) (rw l at p))
    (one_more (λ j. S.at j (insert_zero v j + 2 ^ v)) i (ap (λ (m : List ℕ). get_or m 1 0) h) (rw k at q))
    (one_more (λ j. S.top j (insert_zero v j) (insert_zero v j + 2 ^ v)) i (ap (λ (m : List ℕ). get_or m 2 0) h) (rw (l, k) at r))
