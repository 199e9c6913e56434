-- Sparse matrices over GF(2^128) as lists of entries: the matrices A, B, C of an R1CS instance, and their multilinear extensions. Entries
-- at one place add up. Rows and columns are counted from 0.
-- Source: Spartan (Setty, CRYPTO 2020), R1CS; document 01, "Matrices and layout"; the Rust's `SparseMatrix`.
-- Assumes nothing.
use Rattle.std.specs.Prelude.{Bool, cond, ◌&&◌, List, [], ◌∷◌, map, ℕ, eqb, ltb, leb, get_or}
use Rattle.magnetar_field.specs.Gf128.{◌⊕◌, ◌⊗◌}
use Rattle.magnetar_field.specs.Tabulate.{tabulate}
use Rattle.magnetar_multilinear.specs.EqTable.{eq_at, eq_table}
use Rattle.magnetar_layout.specs.Every.{every}

-- an entry: its row, its column, and its value, an element
pub record Entry : Type 0 where
  pub row : ℕ
  pub col : ℕ
  pub value : ℕ

-- a matrix: how many rows and columns it has, and its entries
pub record Matrix : Type 0 where
  pub rows : ℕ
  pub cols : ℕ
  pub entries : List Entry

-- the rules (A z)(B z) = C z
pub record System : Type 0 where
  pub a : Matrix
  pub b : Matrix
  pub c : Matrix

-- the sum of f over the entries
unfoldable pub sum_over : (Entry → ℕ) → List Entry → ℕ
sum_over f [] = 0
sum_over f (e ∷ es) = f e ⊕ sum_over f es

-- the sum of f over the entries of row i
unfoldable pub row_total : (Entry → ℕ) → List Entry → ℕ → ℕ
row_total f es i = sum_over (λ e. cond (eqb e.row i) (f e) 0) es

-- an entry's share of the product with z: its value times z at its column
unfoldable pub share : List ℕ → Entry → ℕ
share z e = e.value ⊗ get_or z e.col 0

-- row i of the product M z: the sum of the shares of the entries of row i
unfoldable pub times_at : Matrix → List ℕ → ℕ → ℕ
times_at m z i = row_total (share z) m.entries i

-- the product M z
unfoldable pub times : Matrix → List ℕ → List ℕ
times m z = tabulate (times_at m z) m.rows

-- the entry with its row and column exchanged
abbrev pub swapped : Entry → Entry
swapped e = record { row = e.col; col = e.row; value = e.value }

-- the matrix with rows and columns exchanged
unfoldable pub transpose : Matrix → Matrix
transpose m = record { rows = m.cols; cols = m.rows; entries = map swapped m.entries }

-- the multilinear extension at the row point r and the column point c: the sum over the entries of
-- value eq(r, row) eq(c, column)
unfoldable pub mle_at : Matrix → List ℕ → List ℕ → ℕ
mle_at m r c = sum_over (λ e. e.value ⊗ (eq_at r e.row ⊗ eq_at c e.col)) m.entries

-- the multilinear extension at the row point r and every column y: row y of the transpose times the eq table of r
unfoldable pub mle_table : Matrix → List ℕ → List ℕ
mle_table m r = times (transpose m) (eq_table r)

-- the value is 0 or 1
abbrev pub is_bit : Entry → Bool
is_bit e = ltb e.value 2

-- each value is 0 or 1
unfoldable pub binary : Matrix → Bool
binary m = every is_bit m.entries

-- the value is 0 or 1 and the column does not exceed w
abbrev pub bit_up_to : ℕ → Entry → Bool
bit_up_to w e = is_bit e && leb e.col w

-- the packed flag: each value is 0 or 1 and no column exceeds w, so that M z is 0 or 1 in each row where z is (bits, 1, ..) with w
-- bits
unfoldable pub bit_valued : ℕ → Matrix → Bool
bit_valued w m = every (bit_up_to w) m.entries
