-- Elements below 2^128, and products by 0 and 1.
-- Assumes nothing.
use mathlib.Core.Path.{◌≡◌, sym, ap, ◌∙◌}
use mathlib.Core.List.{List}
use Prim.Native.Nat.{ℕ, ◌+◌, ◌-◌, ◌*◌, ◌/◌, ◌%◌, ◌^◌, ◌<◌, ◌≤◌}
use native.Mathlib.Nat.{div-lt_iff_lt-mul, mul-mod_left, mul_assoc, zero-mul, one-mul, zero-div}
use native.Mathlib.Omega.{arith}
use lib.Pow.{pow_pos, pow-add, high}
use lib.ListN.{length, get_or-eq_default}
use Rattle.magnetar_field.specs.Gf128.{◌⊗◌}
use Rattle.magnetar_field.proofs.Xor.{bit-cases}
use Rattle.magnetar_field.proofs.Product.{⊗-zero, zero-⊗, ⊗-one, one-⊗}
use Rattle.magnetar_matrix.specs.Packed.{packed_bit}

-- an element's two words make a number below 2^128
pub value-lt : (hi lo : ℕ) → hi < 2 ^ 64 → lo < 2 ^ 64 → hi * 2 ^ 64 + lo < 2 ^ 128
value-lt hi lo h l = (div-lt_iff_lt-mul {k = 2 ^ 64} {x = hi * 2 ^ 64 + lo} {y = 2 ^ 64} (pow_pos 64)).0 (rw (high hi 64 l) h)

-- a word moved up by 64 bits or more leaves nothing
pub shift_past : (x t : ℕ) → 64 ≤ t → x * 2 ^ t % 2 ^ 64 ≡ 0
shift_past x t h =
    let e : t ≡ (t - 64) + 64 = omega arith in
    let p : x * 2 ^ t ≡ x * 2 ^ (t - 64) * 2 ^ 64 =
    ap (λ (j : ℕ). x * 2 ^ j) e ∙ ap (λ (n : ℕ). x * n) (pow-add 2 (t - 64) 64) ∙ sym (mul_assoc x (2 ^ (t - 64)) (2 ^ 64)) in
    ap (λ (n : ℕ). n % 2 ^ 64) p ∙ mul-mod_left (x * 2 ^ (t - 64)) (2 ^ 64)

-- the product by a digit
pub digit-⊗ : (x a : ℕ) → x < 2 → a < 2 ^ 128 → x % 2 * a ≡ x ⊗ a
digit-⊗ x a h b = bit-cases (λ (u : ℕ). u % 2 * a ≡ u ⊗ a) (zero-mul a ∙ sym (zero-⊗ a)) (one-mul a ∙ sym (one-⊗ a b)) x h

pub ⊗-digit : (x a : ℕ) → x < 2 → a < 2 ^ 128 → x % 2 * a ≡ a ⊗ x
⊗-digit x a h b = bit-cases (λ (u : ℕ). u % 2 * a ≡ a ⊗ u) (zero-mul a ∙ sym (⊗-zero a)) (one-mul a ∙ sym (⊗-one a b)) x h

pub ⊗-bit : (x a : ℕ) → x < 2 → a < 2 ^ 128 → x * a ≡ a ⊗ x
⊗-bit x a h b = bit-cases (λ (u : ℕ). u * a ≡ a ⊗ u) (zero-mul a ∙ sym (⊗-zero a)) (one-mul a ∙ sym (⊗-one a b)) x h

-- words that a login does not have count as 0
pub bit-missing : (ws : List ℕ) (y : ℕ) → length ws ≤ y / 64 → 0 ≡ packed_bit ws y
unfolding packed_bit
bit-missing ws y h = rw (get_or-eq_default ws 0 h) (sym (ap (λ (n : ℕ). n % 2) (zero-div (2 ^ (y % 64)))))

pub bit-lt : (ws : List ℕ) (y : ℕ) → packed_bit ws y < 2
unfolding packed_bit
bit-lt ws y = omega arith
