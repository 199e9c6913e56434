-- Where a variable can be bound in place. Only the contracts of private functions speak of this.
-- Assumes nothing.
use Rattle.std.specs.Prelude.{◌≡◌, ℕ, ◌*◌, ◌%◌, ◌^◌, ◌≤◌, ◌<◌}

-- 2 * pairs elements, in which variable v pairs entries 2^v places apart, fit into so many words
pub record BindFits (words pairs v : ℕ) : Type 0 where
  pub small : v < 62
  pub room : 4 * pairs ≤ words
  pub whole : pairs % 2 ^ v ≡ 0
