-- How many of the proof's elements have been absorbed when a draw is made.
-- Source: document 01, "Forms that give way" (the order of the proof) and "The run" (demand 3's lists).
-- Assumes nothing.
use Rattle.std.specs.Prelude.{ℕ, suc, ◌+◌, ◌-◌, ◌*◌, min}

-- the elements absorbed when the k-th draw after tau is made: k counts it; s shared rounds, g row rounds
abbrev pub absorbed_after : ℕ → ℕ → ℕ → ℕ
absorbed_after s g k = 8 * min s k + 4 * min g (k - s) + 6 * min 1 (k - s - g) + 3 * (k - s - g - 6)

-- the elements absorbed before draw k
abbrev pub absorbed_count : ℕ → ℕ → ℕ → ℕ → ℕ
absorbed_count s b f k = absorbed_after s (b + f) (suc k - (b + s + (f + s)))
