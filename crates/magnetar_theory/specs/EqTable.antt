-- The eq table of a point, the sum of two lists' products, tables of elements with a variable bound, and eq of two points.
-- Source: document 01, "Field and eq tables".
-- Assumes nothing.
use Rattle.std.specs.Prelude.{List, [], ◌∷◌, ℕ, zero, suc, ◌+◌, ◌^◌, take, drop}
use Rattle.magnetar_theory.specs.Field.{Field}
use Rattle.magnetar_theory.specs.Table.{less}
use Rattle.magnetar_theory.specs.Cells.{line_at}

module _ (F : Field) where
  open F use {K, 𝟎, 𝟏, ◌⊕◌, ◌⊗◌}

  infixl 60 ◌⊕◌
  infixl 70 ◌⊗◌
  -- each entry twice, for the lowest variable 0 and 1
  abbrev pub spread : K → List K → List K
  spread p [] = []
  spread p (e ∷ t) = (𝟏 ⊕ p) ⊗ e ∷ p ⊗ e ∷ spread p t

  -- entry i is the product over j of point[j] if bit j of i is 1, and of 1 + point[j] if it is 0
  abbrev pub eq_table : List K → List K
  eq_table [] = 𝟏 ∷ []
  eq_table (p ∷ ps) = spread p (eq_table ps)

  -- the sum of the products of two lists, entry by entry
  abbrev pub dot : List K → List K → K
  dot [] t = 𝟎
  dot (e ∷ es) [] = 𝟎
  dot (e ∷ es) (x ∷ t) = e ⊗ x ⊕ dot es t

  -- bind the lowest variable at r: neighbours (a missing entry is zero)
  abbrev pub bind_low : K → List K → List K
  bind_low r [] = []
  bind_low r (x ∷ []) = line_at F r x 𝟎 ∷ []
  bind_low r (x ∷ y ∷ t) = line_at F r x y ∷ bind_low r t

  -- the lines through the entries of two lists at r (a missing entry is zero)
  abbrev pub mix_lists : K → List K → List K → List K
  mix_lists r [] [] = []
  mix_lists r [] (y ∷ ys) = line_at F r 𝟎 y ∷ mix_lists r [] ys
  mix_lists r (x ∷ xs) [] = line_at F r x 𝟎 ∷ mix_lists r xs []
  mix_lists r (x ∷ xs) (y ∷ ys) = line_at F r x y ∷ mix_lists r xs ys

  -- bind the highest variable at r: the first h entries and those after them
  abbrev pub bind_top : ℕ → K → List K → List K
  bind_top h r t = mix_lists r (take h t) (drop h t)

  -- the next variable, with s high ones to come and b low ones under them
  abbrev pub bind_next : ℕ → ℕ → K → List K → List K
  bind_next zero b r t = bind_low r t
  bind_next (suc s) b r t = bind_top (2 ^ (s + b)) r t

  -- all variables that the challenges reach, one after the other
  abbrev pub bind_run : ℕ → ℕ → List K → List K → List K
  bind_run s b [] t = t
  bind_run s b (r ∷ rs) t = bind_run (less s) b rs (bind_next s b r t)

  -- the first entry, or zero
  abbrev pub first : List K → K
  first [] = 𝟎
  first (x ∷ t) = x

  -- the product of 1 + tau[j] + r[j]
  abbrev pub eq_product : List K → List K → K
  eq_product [] rs = 𝟏
  eq_product (p ∷ ps) [] = 𝟏
  eq_product (p ∷ ps) (r ∷ rs) = (𝟏 ⊕ p ⊕ r) ⊗ eq_product ps rs

  -- every entry times k
  abbrev pub scale : K → List K → List K
  scale k [] = []
  scale k (x ∷ t) = k ⊗ x ∷ scale k t
