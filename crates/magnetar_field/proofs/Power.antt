-- Powers: the laws of exponents, and the loop that squares and multiplies.
-- Assumes nothing.
use Rattle.std.proofs.Common.{◌≡◌, ℕ, zero, suc, ◌+◌, ◌*◌, ◌/◌, ◌%◌, ◌^◌, ◌<◌, ◌≤◌, sym, refl, ap, ◌∙◌, ap₂, add-zero, add-suc, suc-mul, pow-suc, zero-mul, add-one, arith, lit<}
use lib.Arith.{lt-one}
use Rattle.magnetar_field.specs.Gf128.{◌⊗◌, power}
use Rattle.magnetar_field.proofs.Product.{⊗-assoc, ⊗-one, one-⊗, ⊗-lt}

pub power-lt : (a k : ℕ) → power a k < 2 ^ 128
unfolding power
power-lt a zero = lit< tt
power-lt a (suc k) = ⊗-lt (power a k) a

pub power-one : (a : ℕ) → a < 2 ^ 128 → power a 1 ≡ a
unfolding power
power-one a h = one-⊗ a h

pub power-add : (a m n : ℕ) → power a (m + n) ≡ power a m ⊗ power a n
unfolding power
power-add a m zero = rw add-zero (sym (⊗-one (power a m) (power-lt a m)))
power-add a m (suc n) = rw add-suc (ap (λ (x : ℕ). x ⊗ a) (power-add a m n) ∙ ⊗-assoc (power a m) (power a n) a)

pub power-double : (a n : ℕ) → power a (2 * n) ≡ power a n ⊗ power a n
power-double a n = ap (power a) (omega arith) ∙ power-add a n n

two-suc : (n : ℕ) → suc (suc (2 * n)) ≡ 2 * suc n
two-suc n = omega arith

pub power-square : (a n : ℕ) → a < 2 ^ 128 → power (a ⊗ a) n ≡ power a (2 * n)
unfolding power
power-square a zero h = refl
power-square a (suc n) h =
    ap (λ (x : ℕ). x ⊗ (a ⊗ a)) (power-square a n h) ∙ sym (⊗-assoc (power a (2 * n)) a a) ∙ ap (power a) (two-suc n)

pub power-power : (a m n : ℕ) → power (power a m) n ≡ power a (n * m)
unfolding power
power-power a m zero = rw zero-mul
power-power a m (suc n) = ap (λ (x : ℕ). x ⊗ power a m) (power-power a m n) ∙ sym (power-add a (n * m) m) ∙ ap (power a) (sym (suc-mul n m))

-- ---- the loop over the bits of a word k: left of them are to come
pub record Powering (res base k res' base' rest i : ℕ) : Type 0 where
  pub left : ℕ
  pub all : i + left ≡ 64
  pub small : rest < 2 ^ left
  pub product : res' ⊗ power base' rest ≡ res ⊗ power base k
  pub bases : base' ≡ power base (2 ^ i)

pub powering-start : (res base k : ℕ) → base < 2 ^ 128 → k < 2 ^ 64 → Powering res base k res base k 0
powering-start res base k b h = record { left = 64; all = refl; small = h; product = refl; bases = sym (power-one base b) }

module _ (res base k res' base' rest i : ℕ) (p : Powering res base k res' base' rest i) where
  step : (left : ℕ) → i + left ≡ 64 → rest < 2 ^ left → i < 64 → base' < 2 ^ 128
      → Powering res base k (res' ⊗ power base' (rest % 2)) (base' ⊗ base') (rest / 2) (i + 1)
  step zero a s l b = absurd (omega arith)
  step (suc left) a s l b = record {
    left = left;
    all = omega arith;
    small = omega (arith, pow-suc 2 left);
    product =
        let halves : rest % 2 + 2 * (rest / 2) ≡ rest = omega arith in
        ⊗-assoc res' (power base' (rest % 2)) (power (base' ⊗ base') (rest / 2))
        ∙ ap (λ (x : ℕ). res' ⊗ (power base' (rest % 2) ⊗ x)) (power-square base' (rest / 2) b)
        ∙ ap (λ (x : ℕ). res' ⊗ x) (sym (power-add base' (rest % 2) (2 * (rest / 2))) ∙ ap (power base') halves) ∙ p.product;
    bases =
        let twice : 2 * 2 ^ i ≡ 2 ^ (i + 1) = omega (arith, two-pow i) in
        ap₂ ◌⊗◌ p.bases p.bases ∙ sym (power-double base (2 ^ i)) ∙ ap (power base) twice;
  }
    where
      two-pow : (j : ℕ) → 2 ^ (j + 1) ≡ 2 ^ j * 2
      two-pow j = rw add-one (pow-suc 2 j)

  pub powering-more : i < 64 → base' < 2 ^ 128 → Powering res base k (res' ⊗ power base' (rest % 2)) (base' ⊗ base') (rest / 2) (i + 1)
  powering-more l b = step p.left p.all p.small l b

  pub powering-end : 64 ≤ i → res' < 2 ^ 128 → res' ≡ res ⊗ power base k
  unfolding power
  powering-end l b =
      let none : p.left ≡ 0 = omega (arith, p.all) in
      let done : rest ≡ 0 = lt-one (rw none at p.small) in
      sym (⊗-one res' b) ∙ ap (λ (x : ℕ). res' ⊗ power base' x) (sym done) ∙ p.product

  pub powering-base : 64 ≤ i → i ≤ 64 → base' ≡ power base (2 ^ 64)
  powering-base l g = let e : i ≡ 64 = omega arith in p.bases ∙ rw e

-- two words of an exponent
pub power-words : (a lo hi : ℕ) → 1 ⊗ power a lo ⊗ power (power a (2 ^ 64)) hi ≡ power a (hi * 2 ^ 64 + lo)
power-words a lo hi =
    ap (λ (x : ℕ). x ⊗ power (power a (2 ^ 64)) hi) (one-⊗ (power a lo) (power-lt a lo))
    ∙ ap (λ (x : ℕ). power a lo ⊗ x) (power-power a (2 ^ 64) hi) ∙ sym (power-add a lo (hi * 2 ^ 64)) ∙ ap (power a) (omega arith)

-- one bit of an exponent
pub power-bit-zero : (a b r : ℕ) → r < 2 ^ 128 → b ≡ 0 → r ≡ r ⊗ power a b
unfolding power
power-bit-zero a b r h e = rw e (sym (⊗-one r h))

pub power-bit-one : (a b r : ℕ) → a < 2 ^ 128 → b ≡ 1 → r ⊗ a ≡ r ⊗ power a b
power-bit-one a b r h e = rw (e, power-one a h)
