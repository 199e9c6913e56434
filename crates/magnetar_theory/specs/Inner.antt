-- The inner sum-check: the sum over columns of t(y) z(y).
-- Source: Spartan (Setty, CRYPTO 2020), the second sum-check.
-- Assumes nothing.
use Rattle.std.specs.Prelude.{List, [], ◌∷◌}
use Rattle.magnetar_theory.specs.Field.{Field}
use Rattle.magnetar_theory.specs.Cells.{InnerCell}

module _ (F : Field) where
  open F use {K, 𝟎, 𝟏, ◌⊕◌, ◌⊗◌}

  infixl 60 ◌⊕◌
  infixl 70 ◌⊗◌
  -- two tables as one of cells
  abbrev pub zip_inner : List K → List K → List (InnerCell F)
  zip_inner [] z = []
  zip_inner (x ∷ t) [] = []
  zip_inner (x ∷ t) (y ∷ z) = record { t = x; z = y } ∷ zip_inner t z
