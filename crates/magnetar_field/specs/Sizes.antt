-- Powers of two among numbers below 2^64.
-- Source: document 01, "Who can be turned back" (powers of two) and "Forms that give way" (s, b and f are logarithms).
-- Assumes nothing.
use Rattle.std.specs.Prelude.{ℕ, zero, suc, ◌/◌, ◌^◌, Bool, cond, ◌==◌, nat_lt}

-- how often n, which is below 2^k, can be halved until it is below 2
unfoldable pub halvings : ℕ → ℕ → ℕ
halvings zero n = 0
halvings (suc k) n = cond (nat_lt n 2) 0 (suc (halvings k (n / 2)))

-- the logarithm to the base 2, rounded down; that of 0 is 0
unfoldable pub log₂ : ℕ → ℕ
log₂ n = halvings 64 n

-- n is 2^k for some k
abbrev pub power_of_two : ℕ → Bool
power_of_two n = n == 2 ^ log₂ n
