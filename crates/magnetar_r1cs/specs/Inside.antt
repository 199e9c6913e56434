-- An entry's place. Only private contracts cite this.
-- Assumes nothing.
use Rattle.std.specs.Prelude.{Bool, ◌&&◌, ℕ, ltb}
use Rattle.magnetar_matrix.specs.Matrix.{Entry}

-- the entry lies in n rows and m columns
abbrev pub inside : ℕ → ℕ → Entry → Bool
inside n m e = ltb e.row n && ltb e.col m
