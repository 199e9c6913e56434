-- A matrix as it is lent: four number slices, entry k being row k, column k and the value with the words lo k and hi k.
-- Source: document 01, "Forms that give way" (parallel number slices).
-- Assumes nothing.
use Rattle.std.specs.Prelude.{List, ℕ}

-- a matrix as it is lent: its row and column counts, and the four slices
pub record Lent : Type 0 where
  pub rows : ℕ
  pub cols : ℕ
  pub row : List ℕ
  pub col : List ℕ
  pub lo : List ℕ
  pub hi : List ℕ

-- such a matrix from its six parts
abbrev pub lent : ℕ → ℕ → List ℕ → List ℕ → List ℕ → List ℕ → Lent
lent n m r c l h = record { rows = n; cols = m; row = r; col = c; lo = l; hi = h }
