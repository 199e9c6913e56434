-- The matrices of both systems combined, as a table of columns and at one column point.
-- Source: magnetar's `build_m_combo`; Spartan, 4 (the second sum-check's combination of the three matrices); document 02, U8.
-- Assumes nothing.
use Rattle.std.specs.Prelude.{List, [], ◌∷◌, ℕ, get_or}
use Rattle.magnetar_field.specs.Tabulate.{tabulate}
use Rattle.magnetar_multilinear.specs.EqTable.{eq_table}
use Rattle.magnetar_multilinear.specs.Multilinear.{dot, mle}
use Rattle.magnetar_matrix.specs.Matrix.{Matrix, System, times, mle_table}

-- the matrices of the systems s and t at the row points p and r, combined by the alphas: an element for each of m columns
unfoldable pub combined_table : ℕ → System → System → List ℕ → List ℕ → List ℕ → List ℕ
combined_table m s t al p r =
    tabulate (λ y. dot al (get_or (mle_table s.a p) y 0 ∷ get_or (mle_table s.b p) y 0 ∷ get_or (mle_table s.c p) y 0
    ∷ get_or (mle_table t.a r) y 0 ∷ get_or (mle_table t.b r) y 0 ∷ get_or (mle_table t.c r) y 0 ∷ [])) m

-- a matrix at the row point p and the column point c, row by row: the product with the eq table of c, at p
unfoldable pub value_by_rows : Matrix → (p c : List ℕ) → ℕ
value_by_rows a p c = mle (times a (eq_table c)) p

-- the same of all six, combined by the alphas
unfoldable pub combined_by_rows : System → System → (al p r c : List ℕ) → ℕ
combined_by_rows s t al p r c =
    dot al (value_by_rows s.a p c ∷ value_by_rows s.b p c ∷ value_by_rows s.c p c
    ∷ value_by_rows t.a r c ∷ value_by_rows t.b r c ∷ value_by_rows t.c r c ∷ [])
