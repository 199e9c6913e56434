-- The matrix that a lent one (`Lent` of `magnetar_layout`) is.
-- Source: document 01, "Forms that give way" (parallel number slices).
-- Assumes nothing.
use Rattle.std.specs.Prelude.{List, [], ◌∷◌, ℕ, ◌+◌, ◌*◌, ◌^◌}
pub use Rattle.magnetar_layout.specs.Lent.{Lent, lent}
use Rattle.magnetar_matrix.specs.Matrix.{Entry, Matrix}

-- an entry from its row, its column, and the low and the high word of its value
abbrev pub entry : ℕ → ℕ → ℕ → ℕ → Entry
entry r c l h = record { row = r; col = c; value = h * 2 ^ 64 + l }

-- the entries, as many as every slice has
unfoldable pub entries_of : List ℕ → List ℕ → List ℕ → List ℕ → List Entry
entries_of [] cs ls hs = []
entries_of (r ∷ rs) [] ls hs = []
entries_of (r ∷ rs) (c ∷ cs) [] hs = []
entries_of (r ∷ rs) (c ∷ cs) (l ∷ ls) [] = []
entries_of (r ∷ rs) (c ∷ cs) (l ∷ ls) (h ∷ hs) = entry r c l h ∷ entries_of rs cs ls hs

-- the matrix that is lent
unfoldable pub matrix_of : Lent → Matrix
matrix_of l = record { rows = l.rows; cols = l.cols; entries = entries_of l.row l.col l.lo l.hi }
