-- GF(2^128): polynomials over GF(2) modulo x^128 + x^7 + x^2 + x + 1. Bit i of a number below 2^128 is the coefficient of x^i.
-- Source: SP 800-38D, section 6.3 (the polynomial, but not its bit order); document 01, "Field and eq tables".
-- Assumes nothing.
use Rattle.std.specs.Prelude.{ℕ, zero, suc, ◌+◌, ◌-◌, ◌*◌, ◌/◌, ◌%◌, ◌^◌, bit_xor}
use Rattle.magnetar_field.specs.declared.gf128.Gf128.{Gf128}

infixl 60 ◌⊕◌
infixl 70 ◌⊗◌
-- the number that an element's two words make, the low word first
abbrev pub value : Gf128 → ℕ
value e = e.hi * 2 ^ 64 + e.lo

-- the sum: coefficient by coefficient, modulo 2
unfoldable pub ◌⊕◌ : ℕ → ℕ → ℕ
a ⊕ b = bit_xor a b

-- x^128 is x^7 + x^2 + x + 1
abbrev pub x¹²⁸ : ℕ
x¹²⁸ = 0x87

-- a times x: each coefficient one place up; where there is an x^127, it becomes x^128
unfoldable pub times_x : ℕ → ℕ
times_x a = (a / 2 ^ 127 % 2) * x¹²⁸ ⊕ (a % 2 ^ 127) * 2

-- the sum over i below n of (bit i of b) times x^i times a: what Algorithm 1 of SP 800-38D adds up
unfoldable pub sum_times : ℕ → ℕ → ℕ → ℕ
sum_times zero a b = 0
sum_times (suc n) a b = b % 2 * a ⊕ sum_times n (times_x a) (b / 2)

-- the product, of the 128 lowest coefficients of each
unfoldable pub ◌⊗◌ : ℕ → ℕ → ℕ
a ⊗ b = sum_times 128 (a % 2 ^ 128) b

-- a to the power k
unfoldable pub power : ℕ → ℕ → ℕ
power a zero = 1
power a (suc k) = power a k ⊗ a

-- the inverse by Fermat: a ⊗ inverse a is 1 for each element but 0, and the inverse of 0 is 0
unfoldable pub inverse : ℕ → ℕ
inverse a = power a (2 ^ 128 - 2)
