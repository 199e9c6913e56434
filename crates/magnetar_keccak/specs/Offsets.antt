-- The offsets of rho.
-- Source: FIPS 202, section 3.2.2, Algorithm 2.
-- Assumes nothing.
use Rattle.std.specs.Prelude.{ℕ, zero, suc, ◌+◌, ◌*◌, ◌/◌, ◌%◌, cond, ◌&&◌, eqb}

-- step 3: the walk stands at u, v after t steps and has n to go. The offset of x, y is (t + 1)(t + 2)/2 where the walk meets it;
-- from u, v it goes on to v, (2u + 3v) mod 5
unfoldable pub offset_on_walk : ℕ → ℕ → ℕ → ℕ → ℕ → ℕ → ℕ
offset_on_walk zero t u v x y = 0
offset_on_walk (suc n) t u v x y = cond (eqb u x && eqb v y) ((t + 1) * (t + 2) / 2) (offset_on_walk n (t + 1) v ((2 * u + 3 * v) % 5) x y)

-- the walk starts at 1, 0 and takes t from 0 to 23 (step 2); the lane 0, 0, which it never meets, stays (step 1)
unfoldable pub offset : ℕ → ℕ → ℕ
offset x y = offset_on_walk 24 0 1 0 x y
