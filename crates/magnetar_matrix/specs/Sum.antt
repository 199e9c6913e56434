-- Vectors that are set one behind the other; the sums of `magnetar_field`.
-- Assumes nothing.
use Rattle.std.specs.Prelude.{List, [], ◌++◌, ℕ, zero, suc}
unfoldable pub use Rattle.magnetar_field.specs.Sum.{sum_below}

-- the vectors f 0, f 1, .., f (n - 1), one behind the other
unfoldable pub blocks : (ℕ → List ℕ) → ℕ → List ℕ
blocks f zero = []
blocks f (suc n) = blocks f n ++ f n
