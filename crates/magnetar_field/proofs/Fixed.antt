-- Only 0 and 1 are their own squares.
-- The 128 conjugates of x, which repeated squaring makes, differ by invertible elements. An element that is its own square
-- is the value at each of them of the polynomial that its digits are; so less the element itself that polynomial is 0.
-- Assumes nothing.
use Rattle.std.proofs.Common.{◌≡◌, ℕ, zero, suc, ◌+◌, ◌*◌, ◌/◌, ◌%◌, ◌^◌, ◌<◌, ◌≤◌, List, [], ◌∷◌, length, get_or, replicate, sym, refl, ap, ◌∙◌, subst, ap₂, le_trans, le_of_eq, le_refl, le_of_suc-le-suc, not-suc-le-zero, add-suc, mod-lt, mod-eq_of_lt, suc-mul, suc-add, div-add-mod', zero-add, zero-mul, arith, lit<, lit≤, pow_mono}
use native.Mathlib.Nat.{le_of_suc-le}
use lib.ListN.{get_or-replicate}
use lib.Arith.{lt-one}
use Rattle.magnetar_field.specs.Gf128.{◌⊕◌, ◌⊗◌, times_x, sum_times}
use Rattle.magnetar_field.specs.Polynomial.{eval}
use Rattle.magnetar_field.proofs.Xor.{⊕-self, ⊕-comm, ⊕-assoc, ⊕-lt, ⊕-cancel, eq-of-⊕, top, bit-cases, two_pos, half_lt_pow, additive-zero}
use Rattle.magnetar_field.proofs.Product.{times_x-small, xpow, ⊗-comm, ⊗-assoc, ⊗-⊕, ⊗-one, ⊗-zero, ⊗-pow}
use Rattle.magnetar_field.proofs.Square.{sq, sqs, sqs-lt, sqs-⊕, sqs-⊗, sqs-one}
use Rattle.magnetar_field.proofs.Order.{sqs-add, sqs-half, sqs-id}
use Rattle.magnetar_field.proofs.Norm.{norm, ⊗-norm}
use Rattle.magnetar_field.proofs.Bits.{bits, length-bits, digit_lt, bits_below}
use Rattle.magnetar_field.proofs.Polynomial.{AllRoots, Invertible, Apart, AllApart, all-zero}

-- ---- repeated squaring, in rounds of 128
sqs-cycles : (t a : ℕ) → a < 2 ^ 128 → sqs (t * 128) a ≡ a
unfolding sqs
sqs-cycles zero a h = refl
sqs-cycles (suc t) a h =
    ap (λ (k : ℕ). sqs k a) (suc-mul t 128) ∙ sqs-add (t * 128) 128 a ∙ ap (sqs 128) (sqs-cycles t a h) ∙ sqs-id a h

sqs-mod : (n a : ℕ) → a < 2 ^ 128 → sqs n a ≡ sqs (n % 128) a
sqs-mod n a h =
    ap (λ (k : ℕ). sqs k a) (sym (div-add-mod' n 128)) ∙ sqs-add (n / 128 * 128) (n % 128) a ∙ ap (sqs (n % 128)) (sqs-cycles (n / 128) a h)

-- ---- x^(2^m) + x is invertible for 0 < m < 128
gap : ℕ → ℕ
gap m = sqs m 2 ⊕ 2

two-lt : 2 < 2 ^ 128
two-lt = lit< tt

gap-lt : (m : ℕ) → gap m < 2 ^ 128
unfolding gap
gap-lt m = ⊕-lt 128 (sqs m 2) 2 (sqs-lt m 2 two-lt) two-lt

gap-add : (n m : ℕ) → sqs m (gap n) ⊕ gap m ≡ gap (n + m)
unfolding gap
gap-add n m =
    ap (λ (x : ℕ). x ⊕ (sqs m 2 ⊕ 2)) (sqs-⊕ m (sqs n 2) 2 ∙ ap (λ (x : ℕ). x ⊕ sqs m 2) (sym (sqs-add n m 2)))
    ∙ cut (sqs (n + m) 2) (sqs m 2) 2
  where
    cut : (a b c : ℕ) → a ⊕ b ⊕ (b ⊕ c) ≡ a ⊕ c
    cut a b c = ⊕-assoc a b (b ⊕ c) ∙ ap (λ (x : ℕ). a ⊕ x) (⊕-cancel b c)

-- it divides the one for each multiple of m
gap-mul : (k m : ℕ) → (w : ℕ) × (gap m ⊗ w ≡ gap (k * m))
gap-mul zero m = (0, ⊗-zero (gap m) ∙ gap-zero ∙ ap gap (sym (zero-mul m)))
  where
    gap-zero : 0 ≡ gap 0
    gap-zero = unfold gap sqs in sym (⊕-self 2)
gap-mul (suc k) m = step (gap-mul k m)
  where
    step : (w : ℕ) × (gap m ⊗ w ≡ gap (k * m)) → (w : ℕ) × (gap m ⊗ w ≡ gap (suc k * m))
    step (w, e) = (
      norm m (gap m) ⊗ sqs m w ⊕ 1,
      ⊗-⊕ (gap m) (norm m (gap m) ⊗ sqs m w) 1
          ∙ ap₂ ◌⊕◌
          (sym (⊗-assoc (gap m) (norm m (gap m)) (sqs m w)) ∙ ap (λ (x : ℕ). x ⊗ sqs m w) (⊗-norm m (gap m) (gap-lt m))
          ∙ sym (sqs-⊗ m (gap m) w) ∙ ap (sqs m) e)
          (⊗-one (gap m) (gap-lt m))
          ∙ gap-add (k * m) m ∙ ap gap (sym (suc-mul k m)),
    )

factor-invertible : (d w e : ℕ) → d ⊗ w ≡ e → Invertible e → Invertible d
factor-invertible d w e p (v, q) =
    (v ⊗ w, ⊗-assoc v w d ∙ ap (λ (x : ℕ). v ⊗ x) (⊗-comm w d ∙ p) ∙ q)

gap64-inverse : 0x9e4af928ddbc838a41a8cafd2c95b018 ⊗ 0x61651fea6b5832b944e598a795a299f4 ≡ 1
unfolding ◌⊗◌ sum_times times_x ◌⊕◌
gap64-inverse = refl

gap64-invertible : Invertible (gap 64)
unfolding gap ◌⊕◌
gap64-invertible = (0x9e4af928ddbc838a41a8cafd2c95b018, ap (λ (x : ℕ). 0x9e4af928ddbc838a41a8cafd2c95b018 ⊗ (x ⊕ 2)) sqs-half ∙ gap64-inverse)

-- the power of 2 that takes m to an odd multiple of 64
pick : ℕ → ℕ → ℕ → ℕ
pick zero a b = a
pick (suc d) a b = b

cofactor : ℕ → ℕ → ℕ
cofactor zero m = 1
cofactor (suc n) m = pick (m % 2) (cofactor n (m / 2)) (2 ^ suc n)

tabulate : (ℕ → ℕ) → ℕ → ℕ → List ℕ
tabulate f zero i = []
tabulate f (suc n) i = f i ∷ tabulate f n (suc i)

tabulate-at : (f : ℕ → ℕ) (n i j : ℕ) → j < n → get_or (tabulate f n i) j 0 ≡ f (j + i)
unfolding tabulate
tabulate-at f zero i j h = absurd (not-suc-le-zero h)
tabulate-at f (suc n) i zero h = ap f (sym (zero-add i))
tabulate-at f (suc n) i (suc j) h = tabulate-at f n (suc i) j (le_of_suc-le-suc h) ∙ ap f (add-suc j i ∙ sym (suc-add j i))

odd64 : ℕ → ℕ
odd64 m = cofactor 6 m * m % 128

odd64-all : tabulate odd64 127 1 ≡ replicate 127 64
unfolding tabulate odd64 cofactor pick
odd64-all = refl

odd64-is : (m : ℕ) → suc m < 128 → odd64 (suc m) ≡ 64
odd64-is m h =
    ap odd64 (omega arith) ∙ sym (tabulate-at odd64 127 1 m (le_of_suc-le-suc h)) ∙ ap (λ (l : List ℕ). get_or l m 0) odd64-all
    ∙ get_or-replicate 127 m 64 0 (le_of_suc-le-suc h)

gap-mod : (n : ℕ) → gap n ≡ gap (n % 128)
unfolding gap
gap-mod n = ap (λ (x : ℕ). x ⊕ 2) (sqs-mod n 2 two-lt)

gap-invertible : (m : ℕ) → suc m < 128 → Invertible (gap (suc m))
unfolding odd64
gap-invertible m h =
    let (w, e) = gap-mul (cofactor 6 (suc m)) (suc m) in
    factor-invertible (gap (suc m)) w (gap 64) (e ∙ gap-mod (cofactor 6 (suc m) * suc m) ∙ ap gap (odd64-is m h)) gap64-invertible

-- ---- the conjugates of x: n of them, from i on
conjugates : ℕ → ℕ → List ℕ
conjugates zero i = []
conjugates (suc n) i = sqs i 2 ∷ conjugates n (suc i)

length-conjugates : (n i : ℕ) → length (conjugates n i) ≡ n
unfolding conjugates
length-conjugates zero i = refl
length-conjugates (suc n) i = ap suc (length-conjugates n (suc i))

sqs-invertible : (n d : ℕ) → Invertible d → Invertible (sqs n d)
sqs-invertible n d (v, p) = (sqs n v, sym (sqs-⊗ n v d) ∙ ap (sqs n) p ∙ sqs-one n)

differ-invertible : (m i : ℕ) → suc m < 128 → Invertible (sqs (suc m + i) 2 ⊕ sqs i 2)
unfolding gap
differ-invertible m i h =
    subst Invertible (sqs-⊕ i (sqs (suc m) 2) 2 ∙ ap (λ (x : ℕ). x ⊕ sqs i 2) (sym (sqs-add (suc m) i 2)))
    (sqs-invertible i (gap (suc m)) (gap-invertible m h))

apart : (n m i : ℕ) → suc m + n ≤ 128 → Apart (sqs i 2) (conjugates n (suc m + i))
unfolding conjugates
apart zero m i h = tt
apart (suc n) m i h = (
  differ-invertible m i (omega arith),
  subst (λ (k : ℕ). Apart (sqs i 2) (conjugates n k)) (suc-add (suc m) i) (apart n (suc m) i (omega arith)),
)

all_apart : (n i : ℕ) → n ≤ 128 → AllApart (conjugates n i)
unfolding conjugates
all_apart zero i h = tt
all_apart (suc n) i h =
    (subst (λ (k : ℕ). Apart (sqs i 2) (conjugates n k)) (omega arith) (apart n 0 i (omega arith)), all_apart n (suc i) (le_of_suc-le h))

-- ---- the polynomial that a number's digits are
sqs-digit : (n x : ℕ) → x < 2 → sqs n x ≡ x
sqs-digit n x = bit-cases (λ (u : ℕ). sqs n u ≡ u) (additive-zero (sqs n) (sqs-⊕ n)) (sqs-one n) x

eval-bits : (n k a : ℕ) → eval (bits n a) (sqs k 2) ≡ sqs k (eval (bits n a) 2)
unfolding bits eval
eval-bits zero k a = sym (sqs-digit k 0 two_pos)
eval-bits (suc n) k a =
    ap₂ (λ (x y : ℕ). x ⊕ sqs k 2 ⊗ y) (sym (sqs-digit k (a % 2) (mod-lt a two_pos))) (eval-bits n k (a / 2))
    ∙ ap (λ (x : ℕ). sqs k (a % 2) ⊕ x) (sym (sqs-⊗ k 2 (eval (bits n (a / 2)) 2))) ∙ sym (sqs-⊕ k (a % 2) (2 ⊗ eval (bits n (a / 2)) 2))

two-⊗ : (a : ℕ) → a < 2 ^ 127 → 2 ⊗ a ≡ a * 2
unfolding xpow
two-⊗ a h = ⊗-comm 2 a ∙ ⊗-pow a 1 (lit< tt) ∙ ap times_x (mod-eq_of_lt (le_trans h (lit≤ tt))) ∙ times_x-small a h

eval-two : (n a : ℕ) → n ≤ 128 → a < 2 ^ n → eval (bits n a) 2 ≡ a
unfolding bits eval
eval-two zero a l h = sym (lt-one h)
eval-two (suc n) a l h =
    ap (λ (x : ℕ). a % 2 ⊕ 2 ⊗ x) (eval-two n (a / 2) (le_of_suc-le l) (half_lt_pow n a h))
    ∙ ap (λ (x : ℕ). a % 2 ⊕ x) (two-⊗ (a / 2) (le_trans (half_lt_pow n a h) (pow_mono (le_of_suc-le-suc l))))
    ∙ ⊕-comm (a % 2) (a / 2 * 2) ∙ sym (top a 1)

-- ---- an element that is its own square
module _ (a : ℕ) (ha : a < 2 ^ 128) (e : sq a ≡ a) where
  fixed : (k : ℕ) → sqs k a ≡ a
  unfolding sqs
  fixed zero = refl
  fixed (suc k) = ap (sqs k) e ∙ fixed k

  poly : List ℕ
  poly = (a ⊕ a % 2) ∷ bits 127 (a / 2)

  poly-root : (k : ℕ) → eval poly (sqs k 2) ≡ 0
  unfolding poly eval
  poly-root k =
      ⊕-assoc a (a % 2) (sqs k 2 ⊗ eval (bits 127 (a / 2)) (sqs k 2))
      ∙ ap (λ (x : ℕ). a ⊕ x) (first ∙ eval-bits 128 k a ∙ ap (sqs k) (eval-two 128 a (le_refl 128) ha) ∙ fixed k) ∙ ⊕-self a
    where
      first : a % 2 ⊕ sqs k 2 ⊗ eval (bits 127 (a / 2)) (sqs k 2) ≡ eval (bits 128 a) (sqs k 2)
      first = unfold bits in refl

  poly-roots : (n i : ℕ) → AllRoots poly (conjugates n i)
  unfolding conjugates
  poly-roots zero i = tt
  poly-roots (suc n) i = (poly-root i, poly-roots n (suc i))

  pub sq-fixed : a ≡ a % 2
  unfolding poly
  sq-fixed =
      eq-of-⊕ (all-zero (conjugates 128 0) poly (⊕-lt 128 a (a % 2) ha (digit_lt (a % 2) (mod-lt a two_pos)), bits_below 127 (a / 2))
      (all_apart 128 0 (le_refl 128)) (poly-roots 128 0)
      (le_of_eq (ap suc (length-bits 127 (a / 2)) ∙ sym (length-conjugates 128 0)))).0
