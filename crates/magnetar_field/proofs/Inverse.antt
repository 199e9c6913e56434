-- Each element but 0 has an inverse, a^(2^128 - 2); so a product is 0 only where a factor is.
-- Assumes nothing.
use Rattle.std.proofs.Common.{◌≡◌, ℕ, zero, suc, ◌+◌, ◌-◌, ◌*◌, ◌%◌, ◌^◌, ◌<◌, ◌≢◌, ◌⊎◌, sym, refl, ap, ◌∙◌, ap₂, inl, inr, mod-lt, pow-suc, arith, lit<, pow_pos}
use native.Mathlib.Decide.{ℕ_discrete}
use Rattle.magnetar_field.specs.Gf128.{◌⊗◌, power, inverse}
use Rattle.magnetar_field.proofs.Xor.{bit-cases, two_pos}
use Rattle.magnetar_field.proofs.Product.{⊗-comm, ⊗-assoc, ⊗-lt, ⊗-zero}
use Rattle.magnetar_field.proofs.Square.{sq, sqs, sqs-suc}
use Rattle.magnetar_field.proofs.Power.{power-one, power-add, power-double}
use Rattle.magnetar_field.proofs.Norm.{norm, ⊗-norm}
use Rattle.magnetar_field.proofs.Polynomial.{Invertible, cancel-zero}
use Rattle.magnetar_field.proofs.Order.{sqs-id}
use Rattle.magnetar_field.proofs.Fixed.{sq-fixed}

-- a^(2^128 - 2), as the square of a^(2^127 - 1)
fermat : ℕ → ℕ
fermat a = sq (norm 127 a)

⊗-fermat : (a : ℕ) → a < 2 ^ 128 → a ⊗ fermat a ≡ norm 128 a
unfolding fermat sq
⊗-fermat a h =
    sym (⊗-assoc a (norm 127 a) (norm 127 a)) ∙ ap (λ (x : ℕ). x ⊗ norm 127 a) (⊗-norm 127 a h) ∙ ⊗-comm (sqs 127 a) (norm 127 a)
    ∙ last
  where
    last : norm 127 a ⊗ sqs 127 a ≡ norm 128 a
    last = unfold norm in refl

norm-unit : (a : ℕ) → a < 2 ^ 128 → a ⊗ norm 128 a ≡ a
norm-unit a h = ⊗-norm 128 a h ∙ sqs-id a h

-- a^(2^128 - 1) is its own square, so it is 0 or 1
norm-sq : (a : ℕ) → a < 2 ^ 128 → sq (norm 128 a) ≡ norm 128 a
unfolding sq
norm-sq a h =
    ap (λ (x : ℕ). x ⊗ norm 128 a) (sym (⊗-fermat a h) ∙ ⊗-comm a (fermat a)) ∙ ⊗-assoc (fermat a) a (norm 128 a)
    ∙ ap (λ (x : ℕ). fermat a ⊗ x) (norm-unit a h) ∙ ⊗-comm (fermat a) a ∙ ⊗-fermat a h

norm-lt : (a : ℕ) → a < 2 ^ 128 → norm 128 a < 2 ^ 128
norm-lt a h = rw (← ⊗-fermat a h) (⊗-lt a (fermat a))

fermat-right : (a : ℕ) → a < 2 ^ 128 → a ≢ 0 → a ⊗ fermat a ≡ 1
fermat-right a h n =
    ⊗-fermat a h ∙ bit-cases (λ (x : ℕ). norm 128 a ≡ x → norm 128 a ≡ 1)
    (λ e. absurd (n (sym (norm-unit a h) ∙ ap (λ (x : ℕ). a ⊗ x) e ∙ ⊗-zero a))) (λ e. e)
    (norm 128 a % 2) (mod-lt (norm 128 a) two_pos) (sq-fixed (norm 128 a) (norm-lt a h) (norm-sq a h))

-- ---- as powers
sqs-power : (n a : ℕ) → a < 2 ^ 128 → sqs n a ≡ power a (2 ^ n)
unfolding sqs
sqs-power zero a h = sym (power-one a h)
sqs-power (suc n) a h =
    let twice : 2 * 2 ^ n ≡ 2 ^ suc n = omega (arith, pow-suc 2 n) in
    sqs-suc n a ∙ sq-power (sqs n a) (2 ^ n) (sqs-power n a h) ∙ ap (power a) twice
  where
    sq-power : (x k : ℕ) → x ≡ power a k → sq x ≡ power a (2 * k)
    sq-power x k e = unfold sq in ap₂ ◌⊗◌ e e ∙ sym (power-double a k)

norm-power : (n a : ℕ) → a < 2 ^ 128 → norm n a ≡ power a (2 ^ n - 1)
unfolding norm power
norm-power zero a h = refl
norm-power (suc n) a h =
    let sum : 2 ^ n - 1 + 2 ^ n ≡ 2 ^ suc n - 1 = omega (arith, pow-suc 2 n, pow_pos n) in
    ap₂ ◌⊗◌ (norm-power n a h) (sqs-power n a h) ∙ sym (power-add a (2 ^ n - 1) (2 ^ n)) ∙ ap (power a) sum

inverse-is : (a : ℕ) → a < 2 ^ 128 → inverse a ≡ fermat a
unfolding inverse fermat sq
inverse-is a h = power-double a (2 ^ 127 - 1) ∙ sym (ap₂ ◌⊗◌ (norm-power 127 a h) (norm-power 127 a h))

-- each element but 0 times its inverse is 1
pub inverse-right : (a : ℕ) → a < 2 ^ 128 → a ≢ 0 → a ⊗ inverse a ≡ 1
inverse-right a h n = ap (λ (x : ℕ). a ⊗ x) (inverse-is a h) ∙ fermat-right a h n

-- and the inverse of 0 is 0
pub inverse-zero : inverse 0 ≡ 0
unfolding inverse
inverse-zero = zero-power (2 ^ 128 - 2) (lit< tt)
  where
    zero-power : (k : ℕ) → 0 < k → power 0 k ≡ 0
    zero-power zero h = absurd (omega arith)
    zero-power (suc k) h = unfold power in ⊗-zero (power 0 k)

-- ---- no zero divisors
pub invertible : (a : ℕ) → a < 2 ^ 128 → a ≢ 0 → Invertible a
invertible a h n = (inverse a, ⊗-comm (inverse a) a ∙ inverse-right a h n)

pub zero-product : (a b : ℕ) → a < 2 ^ 128 → b < 2 ^ 128 → a ⊗ b ≡ 0 → (a ≡ 0) ⊎ (b ≡ 0)
zero-product a b ha hb e = go (ℕ_discrete a 0)
  where
    go : Dec (a ≡ 0) → (a ≡ 0) ⊎ (b ≡ 0)
    go (yes p) = inl p
    go (no p) = inr (cancel-zero a b hb (invertible a ha p) e)
