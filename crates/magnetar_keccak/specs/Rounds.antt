-- The round constants of iota.
-- Source: FIPS 202, section 3.2.5, Algorithms 5 and 6.
-- Assumes nothing.
use Rattle.std.specs.Prelude.{ℕ, zero, suc, ◌+◌, ◌-◌, ◌*◌, ◌^◌, ◌%◌, cond, ltb}
use Rattle.magnetar_keccak.specs.State.{◌⊕◌}

-- one step of the register R, bit k of a number being R[k]: R moves up by one, and where R[8] is 1, R[0], R[4], R[5] and R[6] change
unfoldable pub clock : ℕ → ℕ
clock r = cond (ltb r 128) 0 0x71 ⊕ r * 2 % 256

-- the register after t steps, from 1000 0000
unfoldable pub register : ℕ → ℕ
register zero = 1
register (suc t) = clock (register t)

-- rc(t), the bit that Algorithm 5 puts out
unfoldable pub rc : ℕ → ℕ
rc t = register (t % 255) % 2

-- the constant of round i with its bits 2^k - 1 for k below j: bit 2^k - 1 is rc(k + 7i)
unfoldable pub constant_bits : ℕ → ℕ → ℕ
constant_bits zero i = 0
constant_bits (suc j) i = constant_bits j i + rc (j + 7 * i) * 2 ^ (2 ^ j - 1)

-- the constant of round i; a lane has 2^6 bits, so k runs from 0 to 6
unfoldable pub round_constant : ℕ → ℕ
round_constant i = constant_bits 7 i
