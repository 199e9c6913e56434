-- Sparse matrices as lists of entries (equal places add), their products with vectors, and weighted sums of vectors.
-- Source: Spartan (Setty, CRYPTO 2020), R1CS; document 01, "Matrices and layout" (equal entries add).
-- Assumes nothing.
use Rattle.std.specs.Prelude.{◌≡◌, List, [], ◌∷◌, ◌++◌, ℕ, zero, suc, length, get_or, replicate}
use Rattle.magnetar_theory.specs.Field.{Field}
use Rattle.magnetar_theory.specs.SumCheck.{add_lists}
use Rattle.magnetar_theory.specs.EqTable.{scale}

module _ (F : Field) where
  open F use {K, 𝟎, 𝟏, ◌⊕◌, ◌⊗◌}

  infixl 60 ◌⊕◌
  infixl 70 ◌⊗◌
  -- an entry of a sparse matrix
  pub record Entry : Type 0 where
    pub row : ℕ
    pub col : ℕ
    pub val : K

  -- add v to entry i, if there is one
  abbrev pub add_at : ℕ → K → List K → List K
  add_at i v [] = []
  add_at zero v (x ∷ t) = (x ⊕ v) ∷ t
  add_at (suc i) v (x ∷ t) = x ∷ add_at i v t

  -- the product of a matrix of R rows and z
  abbrev pub apply : ℕ → List Entry → List K → List K
  apply R [] z = replicate R 𝟎
  apply R (m ∷ ms) z = add_at m.row (m.val ⊗ get_or z m.col 𝟎) (apply R ms z)

  -- the sums of the columns (n of them), row i weighted by e_i
  abbrev pub columns : ℕ → List Entry → List K → List K
  columns n [] e = replicate n 𝟎
  columns n (m ∷ ms) e = add_at m.col (m.val ⊗ get_or e m.row 𝟎) (columns n ms e)

  -- the products with all the vectors, one after the other
  abbrev pub apply_all : ℕ → List Entry → List (List K) → List K
  apply_all R M [] = []
  apply_all R M (z ∷ zs) = apply R M z ++ apply_all R M zs

  -- the sum of the vectors of n entries, vector u weighted by e_u
  abbrev pub fold : ℕ → List K → List (List K) → List K
  fold n [] zs = replicate n 𝟎
  fold n (e ∷ es) [] = replicate n 𝟎
  fold n (e ∷ es) (z ∷ zs) = add_lists F (scale F e z) (fold n es zs)

  -- every vector has n entries
  abbrev pub AllLength : ℕ → List (List K) → Type 0
  AllLength n [] = Unit {0}
  AllLength n (z ∷ zs) = (length z ≡ n) × AllLength n zs
