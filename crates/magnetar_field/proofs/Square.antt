-- The square: it respects sum and product, and has a table.
-- Assumes nothing.
use Rattle.std.proofs.Common.{◌≡◌, ℕ, zero, suc, ◌/◌, ◌%◌, ◌^◌, ◌<◌, sym, refl, ap, ◌∙◌, ap₂, le_of_suc-le-suc, not-suc-le-zero, mod-eq_of_lt, lit<}
use lib.Pow.{pow-lt}
use Rattle.magnetar_field.specs.Gf128.{◌⊕◌, ◌⊗◌, times_x}
use Rattle.magnetar_field.proofs.Xor.{xor, ⊕-self, ⊕-zero, zero-⊕, ⊕-four, ⊕-odd, ⊕-half, pow-odd, pow-half, Additive, additive-zero, ext}
use Rattle.magnetar_field.proofs.Product.{times_x-⊕, xpow, xpow-one, xpow-suc, ⊗-comm, ⊗-assoc, ⊗-⊕, ⊕-⊗, ⊗-lt, ⊗-pow, one-⊗, ⊗-left-comm}

unfoldable pub sq : ℕ → ℕ
sq a = a ⊗ a

pub sq-lt : (a : ℕ) → sq a < 2 ^ 128
unfolding sq
sq-lt a = ⊗-lt a a

pub sq-⊕ : Additive sq
unfolding sq
sq-⊕ a b = simp (⊗-⊕, ⊕-⊗, ⊗-comm b a, xor)

pub sq-⊗ : (a b : ℕ) → sq (a ⊗ b) ≡ sq a ⊗ sq b
unfolding sq
sq-⊗ a b = simp (⊗-assoc, ⊗-left-comm)

-- the square, by digits: (a0 + x b)^2 = a0 + x^2 b^2. It computes fast: few digits change at a step
unfoldable pub sq_n : ℕ → ℕ → ℕ
sq_n zero a = 0
sq_n (suc n) a = a % 2 ⊕ times_x (times_x (sq_n n (a / 2)))

pub sq_n-⊕ : (n : ℕ) → Additive (sq_n n)
unfolding sq_n
sq_n-⊕ zero a b = sym (⊕-self 0)
sq_n-⊕ (suc n) a b =
    ap₂ (λ (x y : ℕ). x ⊕ times_x (times_x y)) (⊕-odd a b) (ap (sq_n n) (⊕-half a b) ∙ sq_n-⊕ n (a / 2) (b / 2))
    ∙ ap (λ (x : ℕ). a % 2 ⊕ b % 2 ⊕ x) (ap times_x (times_x-⊕ (sq_n n (a / 2)) (sq_n n (b / 2))) ∙ times_x-⊕ _ _)
    ∙ ⊕-four _ _ _ _

sq_n-pow : (n j : ℕ) → j < n → sq_n n (2 ^ j) ≡ xpow j (xpow j 1)
unfolding sq_n xpow
sq_n-pow zero j h = absurd (not-suc-le-zero h)
sq_n-pow (suc n) zero h =
    ap (λ (x : ℕ). 1 ⊕ times_x (times_x x)) (additive-zero (sq_n n) (sq_n-⊕ n))
    ∙ ap (λ (x : ℕ). 1 ⊕ x) (ap times_x (additive-zero times_x times_x-⊕) ∙ additive-zero times_x times_x-⊕) ∙ ⊕-zero 1
sq_n-pow (suc n) (suc j) h =
    ap₂ (λ (x y : ℕ). x ⊕ times_x (times_x (sq_n n y))) (pow-odd j) (pow-half j) ∙ zero-⊕ _
    ∙ ap (λ (x : ℕ). times_x (times_x x)) (sq_n-pow n j (le_of_suc-le-suc h))
    ∙ ap times_x (sym (xpow-suc j (xpow j 1))) ∙ sym (xpow-suc j (times_x (xpow j 1))) ∙ ap (λ (x : ℕ). xpow j (times_x x)) (sym (xpow-suc j 1))

pub sq-sq_n : (a : ℕ) → a < 2 ^ 128 → sq a ≡ sq_n 128 a
unfolding sq
sq-sq_n a ha =
    ext sq (sq_n 128) sq-⊕ (sq_n-⊕ 128) 128
    (λ i hi.
    ⊗-pow (2 ^ i) i hi ∙ ap (xpow i) (mod-eq_of_lt (pow-lt hi) ∙ sym (xpow-one i hi)) ∙ sym (sq_n-pow 128 i hi)) a ha

-- n times
unfoldable pub sqs : ℕ → ℕ → ℕ
sqs zero a = a
sqs (suc n) a = sqs n (sq a)

pub sqs-suc : (n a : ℕ) → sqs (suc n) a ≡ sq (sqs n a)
unfolding sqs
sqs-suc zero a = refl
sqs-suc (suc n) a = sqs-suc n (sq a)

-- the same, to compute
unfoldable pub sq_ns : ℕ → ℕ → ℕ
sq_ns zero a = a
sq_ns (suc n) a = sq_ns n (sq_n 128 a)

pub sqs-sq_ns : (n a : ℕ) → a < 2 ^ 128 → sqs n a ≡ sq_ns n a
unfolding sqs sq_ns
sqs-sq_ns zero a h = refl
sqs-sq_ns (suc n) a h = sqs-sq_ns n (sq a) (sq-lt a) ∙ ap (sq_ns n) (sq-sq_n a h)

pub sqs-lt : (n a : ℕ) → a < 2 ^ 128 → sqs n a < 2 ^ 128
unfolding sqs
sqs-lt zero a h = h
sqs-lt (suc n) a h = sqs-lt n (sq a) (sq-lt a)

pub sqs-⊕ : (n : ℕ) → Additive (sqs n)
unfolding sqs
sqs-⊕ zero a b = refl
sqs-⊕ (suc n) a b = ap (sqs n) (sq-⊕ a b) ∙ sqs-⊕ n (sq a) (sq b)

pub sqs-⊗ : (n a b : ℕ) → sqs n (a ⊗ b) ≡ sqs n a ⊗ sqs n b
unfolding sqs
sqs-⊗ zero a b = refl
sqs-⊗ (suc n) a b = ap (sqs n) (sq-⊗ a b) ∙ sqs-⊗ n (sq a) (sq b)

sq-one : sq 1 ≡ 1
unfolding sq
sq-one = one-⊗ 1 (lit< tt)

pub sqs-one : (n : ℕ) → sqs n 1 ≡ 1
unfolding sqs
sqs-one zero = refl
sqs-one (suc n) = ap (sqs n) sq-one ∙ sqs-one n
