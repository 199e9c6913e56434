-- A word under the mask that a bit makes when it is taken from 0: all ones or all zeros.
-- Assumes nothing.
use Rattle.std.proofs.Common.{◌≡◌, ℕ, ◌+◌, ◌-◌, ◌*◌, ◌%◌, ◌^◌, ◌<◌, mod-eq_of_lt, one-mul, zero-mul, arith}
use lib.Bits.{bit_and, and_zero_r, and_mask}
use Rattle.magnetar_field.proofs.Xor.{bit-cases}

pub masked : (w m d : ℕ) → d < 2 → w < 2 ^ 64 → m < 2 ^ 64 → (m + d) % 2 ^ 64 ≡ 0 → bit_and w m ≡ d * w
masked w m d hd hw hm =
    bit-cases (λ (u : ℕ). (m + u) % 2 ^ 64 ≡ 0 → bit_and w m ≡ u * w)
    (λ e. let z : m ≡ 0 = omega arith in rw (z, and_zero_r, zero-mul))
    (λ e. let z : m ≡ 2 ^ 64 - 1 = omega arith in rw (z, and_mask w 64, one-mul) (mod-eq_of_lt hw))
    d hd

-- both words of an element times a bit
pub digit-mul : (d hi lo : ℕ) → d < 2 → d * (hi * 2 ^ 64 + lo) ≡ d * hi * 2 ^ 64 + d * lo
digit-mul d hi lo = bit-cases (λ (u : ℕ). u * (hi * 2 ^ 64 + lo) ≡ u * hi * 2 ^ 64 + u * lo) (omega arith) (omega arith) d
