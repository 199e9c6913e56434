-- The outer sum-check of one system: the sum over logins and rows of eq(tau, x) (a(x) b(x) + c(x)).
-- Source: Spartan (Setty, CRYPTO 2020), the first sum-check.
-- Assumes nothing.
use Rattle.std.specs.Prelude.{List, [], ◌∷◌, ℕ}
use Rattle.magnetar_theory.specs.Field.{Field}
use Rattle.magnetar_theory.specs.Table.{State}
use Rattle.magnetar_theory.specs.Cells.{OuterCell, outer_cells}
use Rattle.magnetar_theory.specs.EqTable.{eq_table}

module _ (F : Field) where
  open F use {K, 𝟎, 𝟏, ◌⊕◌, ◌⊗◌}

  infixl 60 ◌⊕◌
  infixl 70 ◌⊗◌
  -- four tables as one of cells
  abbrev pub zip_outer : List K → List K → List K → List K → List (OuterCell F)
  zip_outer [] b c e = []
  zip_outer (x ∷ a) [] c e = []
  zip_outer (x ∷ a) (y ∷ b) [] e = []
  zip_outer (x ∷ a) (y ∷ b) (z ∷ c) [] = []
  zip_outer (x ∷ a) (y ∷ b) (z ∷ c) (w ∷ e) = record { a = x; b = y; c = z; e = w } ∷ zip_outer a b c e

  -- a_i b_i + c_i
  abbrev pub row_values : List K → List K → List K → List K
  row_values [] b c = []
  row_values (x ∷ a) [] c = []
  row_values (x ∷ a) (y ∷ b) [] = []
  row_values (x ∷ a) (y ∷ b) (z ∷ c) = (x ⊗ y ⊕ z) ∷ row_values a b c

  -- the state at the start, with s high variables and n low ones
  abbrev pub start : (a b c taus : List K) → ℕ → ℕ → State F (outer_cells F)
  start a b c taus s n = record { tops = s; lows = n; cells = zip_outer a b c (eq_table F taus) }
