-- How many draws a run has, and sums of natural numbers.
-- Source: document 01, "The run" (the drawn challenges).
-- Assumes nothing.
use Rattle.std.specs.Prelude.{ℕ, zero, suc, ◌+◌}

-- the draws of a run: s shared rounds, b and f row rounds, 2 ^ suc h columns
abbrev pub draws : ℕ → ℕ → ℕ → ℕ → ℕ
draws s b f h = b + s + (f + s + (s + (b + (f + (6 + suc h)))))

-- f 0 + .. + f (n - 1), a sum of natural numbers
abbrev pub natural_sum : ℕ → (ℕ → ℕ) → ℕ
natural_sum zero f = 0
natural_sum (suc n) f = f 0 + natural_sum n (λ k. f (suc k))
