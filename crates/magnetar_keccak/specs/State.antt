-- The state array: 25 lanes of 64 bits. The lane at x, y is entry 5 * y + x of a list, and bit z of the lane is A[x, y, z].
-- Source: FIPS 202, sections 3.1 and 3.1.2.
-- Assumes nothing.
use Rattle.std.specs.Prelude.{ℕ, ◌+◌, ◌*◌, ◌-◌, ◌/◌, ◌%◌, ◌^◌, List, get_or}
use Rattle.std.specs.Int.Bits.{bit_xor, bit_and}
use Rattle.magnetar_field.specs.Tabulate.{tabulate}

infixl 60 ◌⊕◌
infixl 65 ◌·◌
-- the sum modulo 2, bit by bit
unfoldable pub ◌⊕◌ : ℕ → ℕ → ℕ
a ⊕ b = bit_xor a b

-- the product modulo 2, bit by bit
unfoldable pub ◌·◌ : ℕ → ℕ → ℕ
a · b = bit_and a b

-- each of a lane's 64 bits with 1 added
unfoldable pub complement : ℕ → ℕ
complement w = 2 ^ 64 - 1 - w

-- a lane with bit z at (z + n) mod 64
unfoldable pub rotate : ℕ → ℕ → ℕ
rotate w n = w * 2 ^ (n % 64) % 2 ^ 64 + w / 2 ^ (64 - n % 64)

-- the lane at x, y
abbrev pub lane : List ℕ → ℕ → ℕ → ℕ
lane a x y = get_or a (5 * y + x) 0

-- the state whose lane at x, y is f x y
abbrev pub lanes : (ℕ → ℕ → ℕ) → List ℕ
lanes f = tabulate (λ i. f (i % 5) (i / 5)) 25
