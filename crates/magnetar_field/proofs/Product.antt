-- The product of GF(2^128): commutative, associative, distributes over the sum, has the unit 1 and stays below 2^128.
-- Assumes nothing.
use Rattle.std.proofs.Common.{◌≡◌, ℕ, zero, suc, ◌+◌, ◌*◌, ◌/◌, ◌%◌, ◌^◌, ◌<◌, sym, refl, ap, ◌∙◌, ap₂, le_trans, le_refl, le_of_suc-le-suc, not-suc-le-zero, mod-lt, mod-eq_of_lt, zero-lt-suc, mul-lt-mul_of_pos_right, one-mul, pow-suc, zero-mul, lit<, pow_pos}
use native.Mathlib.Nat.{le_step, div-eq_of_lt}
use lib.Arith.{digits_div, digits_mod, mod-mul}
use lib.Pow.{pow-lt}
use Rattle.magnetar_field.specs.Gf128.{◌⊕◌, ◌⊗◌, x¹²⁸, times_x, sum_times}
use Rattle.magnetar_field.proofs.Xor.{⊕-self, ⊕-zero, zero-⊕, ⊕-lt, ⊕-shr, ⊕-mod, ⊕-four, ⊕-double, ⊕-half, ⊕-odd, digit-⊕, ⊕-digit, bit-cases, two_pos, pow-odd, pow-half, Additive, additive-zero, ext}

-- ---- times x
pub times_x-⊕ : Additive times_x
unfolding times_x
times_x-⊕ a b =
    simp (⊕-shr, ⊕-odd, ⊕-mod, ⊕-double, ⊕-digit (a / 2 ^ 127 % 2) (b / 2 ^ 127 % 2) x¹²⁸ (mod-lt (a / 2 ^ 127) two_pos) (mod-lt (b / 2 ^ 127) two_pos)) (⊕-four _ _ _ _)

pub times_x-lt : (a : ℕ) → times_x a < 2 ^ 128
unfolding times_x
times_x-lt a =
    ⊕-lt 128 _ _ (bit-cases (λ (u : ℕ). u * x¹²⁸ < 2 ^ 128) (lit< tt) (lit< tt) (a / 2 ^ 127 % 2) (mod-lt (a / 2 ^ 127) two_pos))
    (mul-lt-mul_of_pos_right (mod-lt a (pow_pos 127)) two_pos)

-- ---- the product respects the sum, on both sides
sum_times-⊕-l : (n b : ℕ) → Additive (λ a. sum_times n a b)
unfolding sum_times
sum_times-⊕-l zero b a a' = sym (⊕-self 0)
sum_times-⊕-l (suc n) b a a' =
    ap₂ ◌⊕◌ (digit-⊕ (b % 2) a a' (mod-lt b two_pos)) (ap (λ (x : ℕ). sum_times n x (b / 2)) (times_x-⊕ a a') ∙ sum_times-⊕-l n (b / 2) (times_x a) (times_x a'))
    ∙ ⊕-four _ _ _ _

pub sum_times-⊕-r : (n a : ℕ) → Additive (sum_times n a)
unfolding sum_times
sum_times-⊕-r zero a b b' = sym (⊕-self 0)
sum_times-⊕-r (suc n) a b b' =
    ap₂ ◌⊕◌ (ap (λ (x : ℕ). x * a) (⊕-odd b b') ∙ ⊕-digit (b % 2) (b' % 2) a (mod-lt b two_pos) (mod-lt b' two_pos))
    (ap (sum_times n (times_x a)) (⊕-half b b') ∙ sum_times-⊕-r n (times_x a) (b / 2) (b' / 2))
    ∙ ⊕-four _ _ _ _

pub sum_times-zero : (n a : ℕ) → sum_times n a 0 ≡ 0
sum_times-zero n a = additive-zero (sum_times n a) (sum_times-⊕-r n a)

-- a digit times x
pub times_x-digit : (x a : ℕ) → x < 2 → times_x (x * a) ≡ x * times_x a
times_x-digit x a =
    bit-cases (λ (u : ℕ). times_x (u * a) ≡ u * times_x a) (simp zero-mul (additive-zero times_x times_x-⊕)) (simp one-mul) x

pub sum_times-times_x : (n a b : ℕ) → times_x (sum_times n a b) ≡ sum_times n (times_x a) b
unfolding sum_times
sum_times-times_x zero a b = additive-zero times_x times_x-⊕
sum_times-times_x (suc n) a b =
    times_x-⊕ (b % 2 * a) (sum_times n (times_x a) (b / 2)) ∙ ap₂ ◌⊕◌ (times_x-digit (b % 2) a (mod-lt b two_pos)) (sum_times-times_x n (times_x a) (b / 2))

sum_times-lt : (n a b : ℕ) → a < 2 ^ 128 → sum_times n a b < 2 ^ 128
unfolding sum_times
sum_times-lt zero a b h = pow_pos 128
sum_times-lt (suc n) a b h =
    ⊕-lt 128 _ _ (bit-cases (λ (u : ℕ). u * a < 2 ^ 128) (rw zero-mul (pow_pos 128)) (rw one-mul h) (b % 2) (mod-lt b two_pos))
    (sum_times-lt n (times_x a) (b / 2) (times_x-lt a))

-- only the n low digits of b are read
sum_times-mod : (n a b : ℕ) → sum_times n a (b % 2 ^ n) ≡ sum_times n a b
unfolding sum_times
sum_times-mod zero a b = refl
sum_times-mod (suc n) a b =
    ap₂ (λ (x y : ℕ). x * a ⊕ sum_times n (times_x a) y)
    (ap (λ (x : ℕ). x % 2) (low-digits n b) ∙ digits_mod (b / 2 % 2 ^ n) (mod-lt b two_pos))
    (ap (λ (x : ℕ). x / 2) (low-digits n b) ∙ digits_div (b / 2 % 2 ^ n) (mod-lt b two_pos))
    ∙ ap (λ (y : ℕ). b % 2 * a ⊕ y) (sum_times-mod n (times_x a) (b / 2))
  where
    low-digits : (k c : ℕ) → c % 2 ^ suc k ≡ (c / 2 % 2 ^ k) * 2 + c % 2
    low-digits k c = ap (λ (x : ℕ). c % x) (pow-suc 2 k) ∙ mod-mul c (pow_pos k) two_pos

-- ---- times x^i
unfoldable pub xpow : ℕ → ℕ → ℕ
xpow zero a = a
xpow (suc i) a = xpow i (times_x a)

pub xpow-suc : (i a : ℕ) → xpow (suc i) a ≡ times_x (xpow i a)
unfolding xpow
xpow-suc zero a = refl
xpow-suc (suc i) a = xpow-suc i (times_x a)

pub xpow-comm : (i j a : ℕ) → xpow i (xpow j a) ≡ xpow j (xpow i a)
unfolding xpow
xpow-comm zero j a = refl
xpow-comm (suc i) j a = ap (xpow i) (sym (xpow-suc j a)) ∙ xpow-comm i j (times_x a)

xpow-lt : (i a : ℕ) → a < 2 ^ 128 → xpow i a < 2 ^ 128
unfolding xpow
xpow-lt zero a h = h
xpow-lt (suc i) a h = xpow-lt i (times_x a) (times_x-lt a)

pub times_x-small : (a : ℕ) → a < 2 ^ 127 → times_x a ≡ a * 2
unfolding times_x
times_x-small a h = simp (div-eq_of_lt h, mod-eq_of_lt h, zero-⊕)

pub xpow-one : (i : ℕ) → i < 128 → xpow i 1 ≡ 2 ^ i
unfolding xpow
xpow-one zero h = refl
xpow-one (suc i) h =
    xpow-suc i 1 ∙ ap times_x (xpow-one i (le_trans (le_step (le_refl (suc i))) h)) ∙ times_x-small (2 ^ i) (pow-lt (le_of_suc-le-suc h))
    ∙ sym (pow-suc 2 i)

sum_times-pow : (n a j : ℕ) → j < n → sum_times n a (2 ^ j) ≡ xpow j a
unfolding sum_times xpow
sum_times-pow zero a j h = absurd (not-suc-le-zero h)
sum_times-pow (suc n) a zero h = ap₂ ◌⊕◌ (one-mul a) (sum_times-zero n (times_x a)) ∙ ⊕-zero a
sum_times-pow (suc n) a (suc j) h =
    ap₂ (λ (x y : ℕ). x * a ⊕ sum_times n (times_x a) y) (pow-odd j) (pow-half j)
    ∙ ap (λ (x : ℕ). x ⊕ sum_times n (times_x a) (2 ^ j)) (zero-mul a) ∙ zero-⊕ (sum_times n (times_x a) (2 ^ j))
    ∙ sum_times-pow n (times_x a) j (le_of_suc-le-suc h)

-- ---- the product is commutative
sum_times-comm-pow : (a i : ℕ) → a < 2 ^ 128 → i < 128 → sum_times 128 a (2 ^ i) ≡ sum_times 128 (2 ^ i) a
sum_times-comm-pow a i ha hi =
    ext (λ (x : ℕ). sum_times 128 x (2 ^ i)) (sum_times 128 (2 ^ i)) (sum_times-⊕-l 128 (2 ^ i)) (sum_times-⊕-r 128 (2 ^ i)) 128
    (λ j hj.
    sum_times-pow 128 (2 ^ j) i hi ∙ ap (xpow i) (sym (xpow-one j hj)) ∙ xpow-comm i j 1
    ∙ ap (xpow j) (xpow-one i hi) ∙ sym (sum_times-pow 128 (2 ^ i) j hj)) a ha

sum_times-comm : (a b : ℕ) → a < 2 ^ 128 → b < 2 ^ 128 → sum_times 128 a b ≡ sum_times 128 b a
sum_times-comm a b ha hb =
    ext (sum_times 128 a) (λ (x : ℕ). sum_times 128 x a) (sum_times-⊕-r 128 a) (sum_times-⊕-l 128 a) 128 (λ i hi. sum_times-comm-pow a i ha hi) b hb

q-lt : (a : ℕ) → a % 2 ^ 128 < 2 ^ 128
q-lt a = mod-lt a (pow_pos 128)

pub ⊗-comm : (a b : ℕ) → a ⊗ b ≡ b ⊗ a
unfolding ◌⊗◌
⊗-comm a b =
    sym (sum_times-mod 128 (a % 2 ^ 128) b) ∙ sum_times-comm (a % 2 ^ 128) (b % 2 ^ 128) (q-lt a) (q-lt b) ∙ sum_times-mod 128 (b % 2 ^ 128) a

pub ⊗-⊕ : (a b c : ℕ) → a ⊗ (b ⊕ c) ≡ a ⊗ b ⊕ a ⊗ c
unfolding ◌⊗◌
⊗-⊕ a b c = sum_times-⊕-r 128 (a % 2 ^ 128) b c

pub ⊕-⊗ : (a b c : ℕ) → (a ⊕ b) ⊗ c ≡ a ⊗ c ⊕ b ⊗ c
⊕-⊗ a b c = ⊗-comm (a ⊕ b) c ∙ ⊗-⊕ c a b ∙ ap₂ ◌⊕◌ (⊗-comm c a) (⊗-comm c b)

pub ⊗-lt : (a b : ℕ) → a ⊗ b < 2 ^ 128
unfolding ◌⊗◌
⊗-lt a b = sum_times-lt 128 (a % 2 ^ 128) b (q-lt a)

pub ⊗-pow : (a j : ℕ) → j < 128 → a ⊗ 2 ^ j ≡ xpow j (a % 2 ^ 128)
unfolding ◌⊗◌
⊗-pow a j h = sum_times-pow 128 (a % 2 ^ 128) j h

-- the arguments count only below x^128
pub ⊗-mod : (a b : ℕ) → a ⊗ (b % 2 ^ 128) ≡ a ⊗ b
unfolding ◌⊗◌
⊗-mod a b = sum_times-mod 128 (a % 2 ^ 128) b

pub ⊗-zero : (a : ℕ) → a ⊗ 0 ≡ 0
unfolding ◌⊗◌
⊗-zero a = sum_times-zero 128 (a % 2 ^ 128)

pub zero-⊗ : (a : ℕ) → 0 ⊗ a ≡ 0
zero-⊗ a = ⊗-comm 0 a ∙ ⊗-zero a

pub ⊗-one-mod : (a : ℕ) → a ⊗ 1 ≡ a % 2 ^ 128
unfolding xpow
⊗-one-mod a = ⊗-pow a 0 (zero-lt-suc 127)

pub ⊗-one : (a : ℕ) → a < 2 ^ 128 → a ⊗ 1 ≡ a
⊗-one a h = ⊗-one-mod a ∙ mod-eq_of_lt h

pub one-⊗ : (a : ℕ) → a < 2 ^ 128 → 1 ⊗ a ≡ a
one-⊗ a h = ⊗-comm 1 a ∙ ⊗-one a h

⊗-times_x : (a b : ℕ) → b < 2 ^ 128 → a ⊗ times_x b ≡ times_x (a ⊗ b)
unfolding ◌⊗◌
⊗-times_x a b h = ⊗-comm a (times_x b) ∙ step ∙ ap times_x (⊗-comm b a)
  where
    step : times_x b ⊗ a ≡ times_x (b ⊗ a)
    step = ap (λ (x : ℕ). sum_times 128 x a) (mod-eq_of_lt (times_x-lt b) ∙ ap times_x (sym (mod-eq_of_lt h))) ∙ sym (sum_times-times_x 128 (b % 2 ^ 128) a)

pub ⊗-xpow : (k a b : ℕ) → b < 2 ^ 128 → a ⊗ xpow k b ≡ xpow k (a ⊗ b)
unfolding xpow
⊗-xpow zero a b h = refl
⊗-xpow (suc k) a b h = ⊗-xpow k a (times_x b) (times_x-lt b) ∙ ap (xpow k) (⊗-times_x a b h)

-- ---- and associative
pub ⊗-assoc : (a b c : ℕ) → a ⊗ b ⊗ c ≡ a ⊗ (b ⊗ c)
⊗-assoc a b c =
    sym (⊗-mod (a ⊗ b) c)
    ∙ ext (λ (x : ℕ). a ⊗ b ⊗ x) (λ (x : ℕ). a ⊗ (b ⊗ x)) (⊗-⊕ (a ⊗ b)) (λ x y. ap (λ (z : ℕ). a ⊗ z) (⊗-⊕ b x y) ∙ ⊗-⊕ a (b ⊗ x) (b ⊗ y)) 128
    (λ k hk.
    ⊗-pow (a ⊗ b) k hk ∙ ap (xpow k) (mod-eq_of_lt (⊗-lt a b) ∙ sym (⊗-mod a b)) ∙ sym (⊗-xpow k a (b % 2 ^ 128) (q-lt b))
    ∙ ap (λ (x : ℕ). a ⊗ x) (sym (⊗-pow b k hk)))
    (c % 2 ^ 128) (q-lt c)
    ∙ ap (λ (x : ℕ). a ⊗ x) (⊗-mod b c)

pub ⊗-left-comm : (a b c : ℕ) → a ⊗ (b ⊗ c) ≡ b ⊗ (a ⊗ c)
⊗-left-comm a b c = sym (⊗-assoc a b c) ∙ ap (λ (x : ℕ). x ⊗ c) (⊗-comm a b) ∙ ⊗-assoc b a c
