-- The sum of polynomials over GF(2): an abelian group in which each element is its own inverse; and functions that respect it.
-- Assumes nothing.
use Rattle.std.proofs.Common.{◌≡◌, ℕ, zero, suc, ◌+◌, ◌*◌, ◌/◌, ◌%◌, ◌^◌, ◌<◌, sym, refl, ap, ◌∙◌, ap₂, le_refl, le_of_suc-le-suc, not-suc-le-zero, add-zero, mod-lt, zero-lt-suc, mul_comm, div-lt_iff_lt-mul, one-mul, pow-suc, zero-mul, mul-div_cancel, pow_pos}
use native.Mathlib.Nat.{le_step, mul-mod_left}
use lib.Arith.{bin_ind, digits_mod, lt-one}
use lib.Pow.{split}
use Rattle.magnetar_field.specs.Gf128.{◌⊕◌}
use lib.Bits.{bit_xor, differ, xor_step, xor_comm, xor_self, xor_zero_l, xor_zero_r, xor_lt, xor_shr, xor_mod, xor_block, xor_shifted}

pub two_pos : zero < 2
two_pos = zero-lt-suc 1

-- ---- one digit
no-two : {A : Type 0} (x : ℕ) → suc (suc x) < 2 → A
no-two x h = absurd (not-suc-le-zero (le_of_suc-le-suc (le_of_suc-le-suc h)))

-- a fact of each digit below 2 is two facts
pub bit-cases : (P : ℕ → Type 0) → P 0 → P 1 → (x : ℕ) → x < 2 → P x
bit-cases P p q zero h = p
bit-cases P p q (suc zero) h = q
bit-cases P p q (suc (suc x)) h = no-two x h

differ-lt : (x y : ℕ) → x < 2 → y < 2 → differ x y < 2
differ-lt x y hx hy =
    bit-cases (λ (u : ℕ). differ u y < 2) hy (bit-cases (λ (v : ℕ). differ 1 v < 2) (le_refl 2) two_pos y hy) x hx

differ-assoc : (x y z : ℕ) → x < 2 → y < 2 → z < 2 → differ (differ x y) z ≡ differ x (differ y z)
differ-assoc x y z hx hy hz =
    bit-cases (λ (u : ℕ). differ (differ u y) z ≡ differ u (differ y z)) refl
    (bit-cases (λ (v : ℕ). differ (differ 1 v) z ≡ differ 1 (differ v z)) refl
    (bit-cases (λ (w : ℕ). differ 0 w ≡ differ 1 (differ 1 w)) refl refl z hz) y hy) x hx

-- ---- the group
xor-half : (a b : ℕ) → bit_xor a b / 2 ≡ bit_xor (a / 2) (b / 2)
xor-half a b = xor_shr a b 1

xor-odd : (a b : ℕ) → bit_xor a b % 2 ≡ differ (a % 2) (b % 2)
xor-odd a b =
    ap (λ (x : ℕ). x % 2) (xor_step a b)
    ∙ digits_mod (bit_xor (a / 2) (b / 2)) (differ-lt (a % 2) (b % 2) (mod-lt a two_pos) (mod-lt b two_pos))

xor_assoc : (a b c : ℕ) → bit_xor (bit_xor a b) c ≡ bit_xor a (bit_xor b c)
xor_assoc =
    bin_ind (λ (n : ℕ). (b c : ℕ) → bit_xor (bit_xor n b) c ≡ bit_xor n (bit_xor b c)) (λ b c. refl)
    (λ n ih b c.
    xor_step (bit_xor n b) c
    ∙ ap₂ (λ (x y : ℕ). x * 2 + y)
    (ap (λ (x : ℕ). bit_xor x (c / 2)) (xor-half n b) ∙ ih (b / 2) (c / 2) ∙ ap (bit_xor (n / 2)) (sym (xor-half b c)))
    (ap (λ (x : ℕ). differ x (c % 2)) (xor-odd n b)
    ∙ differ-assoc (n % 2) (b % 2) (c % 2) (mod-lt n two_pos) (mod-lt b two_pos) (mod-lt c two_pos)
    ∙ ap (differ (n % 2)) (sym (xor-odd b c)))
    ∙ sym (xor_step n (bit_xor b c)))

pub ⊕-assoc : (a b c : ℕ) → a ⊕ b ⊕ c ≡ a ⊕ (b ⊕ c)
unfolding ◌⊕◌
⊕-assoc = xor_assoc

pub ⊕-comm : (a b : ℕ) → a ⊕ b ≡ b ⊕ a
unfolding ◌⊕◌
⊕-comm = xor_comm

pub ⊕-self : (a : ℕ) → a ⊕ a ≡ 0
unfolding ◌⊕◌
⊕-self = xor_self

pub ⊕-zero : (a : ℕ) → a ⊕ 0 ≡ a
unfolding ◌⊕◌
⊕-zero = xor_zero_r

pub zero-⊕ : (a : ℕ) → 0 ⊕ a ≡ a
unfolding ◌⊕◌
zero-⊕ = xor_zero_l

pub ⊕-lt : (k a b : ℕ) → a < 2 ^ k → b < 2 ^ k → a ⊕ b < 2 ^ k
unfolding ◌⊕◌
⊕-lt = xor_lt

pub ⊕-shr : (a b k : ℕ) → (a ⊕ b) / 2 ^ k ≡ a / 2 ^ k ⊕ b / 2 ^ k
unfolding ◌⊕◌
⊕-shr = xor_shr

pub ⊕-mod : (a b k : ℕ) → (a ⊕ b) % 2 ^ k ≡ a % 2 ^ k ⊕ b % 2 ^ k
unfolding ◌⊕◌
⊕-mod = xor_mod

pub ⊕-left-comm : (a b c : ℕ) → a ⊕ (b ⊕ c) ≡ b ⊕ (a ⊕ c)
⊕-left-comm a b c = sym (⊕-assoc a b c) ∙ ap (λ (x : ℕ). x ⊕ c) (⊕-comm a b) ∙ ⊕-assoc b a c

pub ⊕-cancel : (a b : ℕ) → a ⊕ (a ⊕ b) ≡ b
⊕-cancel a b = sym (⊕-assoc a a b) ∙ ap (λ (x : ℕ). x ⊕ b) (⊕-self a) ∙ zero-⊕ b

pub ruleset xor = (⊕-assoc, ⊕-comm, ⊕-left-comm, ⊕-self, ⊕-cancel, ⊕-zero, zero-⊕)

pub ⊕-four : (a b c d : ℕ) → a ⊕ b ⊕ (c ⊕ d) ≡ a ⊕ c ⊕ (b ⊕ d)
⊕-four a b c d = simp (⊕-assoc, ⊕-left-comm)

-- equal iff the sum is 0
pub eq-of-⊕ : {a b : ℕ} → a ⊕ b ≡ 0 → a ≡ b
eq-of-⊕ {a} {b} e = sym (⊕-zero a) ∙ ap (λ (x : ℕ). a ⊕ x) (sym e) ∙ ⊕-cancel a b

pub ⊕-double : (a b : ℕ) → (a ⊕ b) * 2 ≡ a * 2 ⊕ b * 2
unfolding ◌⊕◌
⊕-double a b = sym (
    ap₂ bit_xor (sym (add-zero (a * 2))) (sym (add-zero (b * 2))) ∙ xor_block 1 a b 0 0 (pow_pos 1) (pow_pos 1)
    ∙ add-zero (bit_xor a b * 2))

pub ⊕-half : (a b : ℕ) → (a ⊕ b) / 2 ≡ a / 2 ⊕ b / 2
⊕-half a b = ⊕-shr a b 1

pub ⊕-odd : (a b : ℕ) → (a ⊕ b) % 2 ≡ a % 2 ⊕ b % 2
⊕-odd a b = ⊕-mod a b 1

pub pow-odd : (j : ℕ) → 2 ^ suc j % 2 ≡ 0
pow-odd j = ap (λ (x : ℕ). x % 2) (pow-suc 2 j) ∙ mul-mod_left (2 ^ j) 2

pub pow-half : (j : ℕ) → 2 ^ suc j / 2 ≡ 2 ^ j
pow-half j = ap (λ (x : ℕ). x / 2) (pow-suc 2 j) ∙ mul-div_cancel (2 ^ j) two_pos

pub half_lt_pow : (n a : ℕ) → a < 2 ^ suc n → a / 2 < 2 ^ n
half_lt_pow n a h = (div-lt_iff_lt-mul two_pos).1 (rw (← pow-suc) h)

-- ---- a digit times a number
pub digit-⊕ : (x a b : ℕ) → x < 2 → x * (a ⊕ b) ≡ x * a ⊕ x * b
digit-⊕ x a b =
    bit-cases (λ (u : ℕ). u * (a ⊕ b) ≡ u * a ⊕ u * b) (simp (zero-mul, ⊕-self)) (simp one-mul) x

pub ⊕-digit : (x y a : ℕ) → x < 2 → y < 2 → (x ⊕ y) * a ≡ x * a ⊕ y * a
⊕-digit x y a hx hy =
    bit-cases (λ (u : ℕ). (u ⊕ y) * a ≡ u * a ⊕ y * a) (simp (zero-⊕, zero-mul))
    (bit-cases (λ (v : ℕ). (1 ⊕ v) * a ≡ 1 * a ⊕ v * a) (simp (⊕-zero, zero-mul)) (simp (⊕-self, zero-mul)) y hy) x hx

-- ---- functions that respect the sum
abbrev pub Additive : (ℕ → ℕ) → Type 0
Additive f = (a b : ℕ) → f (a ⊕ b) ≡ f a ⊕ f b

pub additive-zero : (f : ℕ → ℕ) → Additive f → f 0 ≡ 0
additive-zero f hf = ap f (sym (⊕-self 0)) ∙ hf 0 0 ∙ ⊕-self (f 0)

-- the highest digit, and the rest
pub top : (a k : ℕ) → a ≡ a / 2 ^ k * 2 ^ k ⊕ a % 2 ^ k
unfolding ◌⊕◌
top a k = sym (xor_shifted (a / 2 ^ k) k (a % 2 ^ k) (mod-lt a (pow_pos k)) ∙ split a k)

-- a digit below the rest
pub add-digit : (k x : ℕ) → x < 2 → k * 2 ⊕ x ≡ k * 2 + x
unfolding ◌⊕◌
add-digit k x h = xor_shifted k 1 x h

-- two that agree on the powers of 2 agree
pub ext : (f g : ℕ → ℕ) → Additive f → Additive g → (n : ℕ) → ((i : ℕ) → i < n → f (2 ^ i) ≡ g (2 ^ i))
    → (a : ℕ) → a < 2 ^ n → f a ≡ g a
ext f g hf hg zero h a l = ap f (lt-one l) ∙ additive-zero f hf ∙ sym (additive-zero g hg) ∙ ap g (sym (lt-one l))
ext f g hf hg (suc n) h a l =
    ap f (top a n) ∙ hf (a / 2 ^ n * 2 ^ n) (a % 2 ^ n)
    ∙ ap₂ ◌⊕◌
    (bit-cases (λ (u : ℕ). f (u * 2 ^ n) ≡ g (u * 2 ^ n))
    (simp zero-mul (additive-zero f hf ∙ sym (additive-zero g hg)))
    (simp one-mul (h n (le_refl (suc n)))) (a / 2 ^ n) ((div-lt_iff_lt-mul (pow_pos n)).1 (rw (mul_comm, ← pow-suc) l)))
    (ext f g hf hg n (λ i k. h i (le_step k)) (a % 2 ^ n) (mod-lt a (pow_pos n)))
    ∙ sym (hg (a / 2 ^ n * 2 ^ n) (a % 2 ^ n)) ∙ ap g (sym (top a n))
