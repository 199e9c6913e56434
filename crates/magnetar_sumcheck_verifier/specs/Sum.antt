-- Sums over GF(2^128).
-- Assumes nothing.
use Rattle.std.specs.Prelude.{List, [], ◌∷◌, ℕ}
use Rattle.magnetar_field.specs.Gf128.{◌⊕◌}
unfoldable pub use Rattle.magnetar_field.specs.Sum.{sum_below}

-- the sum of a list's entries
unfoldable pub total : List ℕ → ℕ
total [] = 0
total (c ∷ cs) = c ⊕ total cs
