-- The step mappings, lane by lane, and the permutation Keccak-f[1600].
-- Source: FIPS 202, sections 3.2.1 to 3.2.5 (the step mappings), 3.3 (the round) and 3.4 (Keccak-f).
-- Assumes nothing.
use Rattle.std.specs.Prelude.{ℕ, zero, suc, ◌+◌, ◌*◌, ◌%◌, List, set}
use Rattle.magnetar_keccak.specs.State.{◌⊕◌, ◌·◌, complement, rotate, lane, lanes}
use Rattle.magnetar_keccak.specs.Offsets.{offset}
use Rattle.magnetar_keccak.specs.Rounds.{round_constant}

-- C[x] of Algorithm 1 (section 3.2.1): the parity of a column
unfoldable pub parity : List ℕ → ℕ → ℕ
parity a x = lane a x 0 ⊕ lane a x 1 ⊕ lane a x 2 ⊕ lane a x 3 ⊕ lane a x 4

-- D[x] of Algorithm 1: C[x - 1], and C[x + 1] one bit up
unfoldable pub effect : List ℕ → ℕ → ℕ
effect a x = parity a ((x + 4) % 5) ⊕ rotate (parity a ((x + 1) % 5)) 1

-- Algorithm 1 (section 3.2.1)
unfoldable pub theta : List ℕ → List ℕ
theta a = lanes (λ x y. lane a x y ⊕ effect a x)

-- Algorithm 2 (section 3.2.2)
unfoldable pub rho : List ℕ → List ℕ
rho a = lanes (λ x y. rotate (lane a x y) (offset x y))

-- Algorithm 3 (section 3.2.3)
unfoldable pub pi : List ℕ → List ℕ
pi a = lanes (λ x y. lane a ((x + 3 * y) % 5) x)

-- Algorithm 4 (section 3.2.4)
unfoldable pub chi : List ℕ → List ℕ
chi a = lanes (λ x y. lane a x y ⊕ complement (lane a ((x + 1) % 5) y) · lane a ((x + 2) % 5) y)

-- Algorithm 6 (section 3.2.5): the constant of round i is added to the lane 0, 0
unfoldable pub iota : List ℕ → ℕ → List ℕ
iota a i = set a 0 (lane a 0 0 ⊕ round_constant i)

-- Rnd (section 3.3)
unfoldable pub round : List ℕ → ℕ → List ℕ
round a i = iota (chi (pi (rho (theta a)))) i

-- the rounds 0 to n - 1
unfoldable pub rounds : ℕ → List ℕ → List ℕ
rounds zero a = a
rounds (suc n) a = round (rounds n a) n

-- Keccak-f[1600]: 24 rounds (section 3.4)
unfoldable pub permuted : List ℕ → List ℕ
permuted a = rounds 24 a
