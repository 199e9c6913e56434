-- The outcomes of the entries: which refusal applies, in rising order, and what each lent slice holds at exit.
-- Source: document 01, "Matrices and layout", "The run" (scratch words) and "Who can be turned back"; the Rust's `SparseMatrix`.
-- Assumes nothing.
use Rattle.std.specs.Prelude.{Bool, not, Result, Ok, Err, List, [], ◌∷◌, ◌++◌, ℕ, ◌+◌, ◌-◌, ◌*◌, ◌^◌, ltb, length, take, drop, replicate}
use Rattle.magnetar_field.specs.declared.refusal.Refusal.{Refusal}
use Rattle.magnetar_field.specs.Number.{number}
use Rattle.magnetar_field.specs.Refusal.{unless_refused}
use Rattle.magnetar_field.specs.Sizes.{log₂}
use Rattle.magnetar_field.specs.Words.{elements, words}
use Rattle.magnetar_multilinear.specs.Entries.{Answer, answered}
use Rattle.magnetar_matrix.specs.Matrix.{Matrix, times, mle_table, mle_at, bit_valued}
use Rattle.magnetar_r1cs.specs.Masks.{masks}
use Rattle.magnetar_matrix.specs.Packed.{packed_table, unpacked}
use Rattle.magnetar_matrix.specs.Lent.{Lent, matrix_of}
use Rattle.magnetar_matrix.specs.Numbers.{Numbers, entries_by}
use Rattle.magnetar_layout.specs.Tests.{Tests, first_refusal, size_tests, packed_tests, packed_tests_of, public_tests_of, rows_tests}
use Rattle.magnetar_layout.specs.Tests.{matrix_column_tests, counted, placed, batch_tests, length_test, room_test, lone_tests}

-- ---- `apply`: the matrix a, the vector z, the output out
-- those of a matrix alone; 11: z; 15: the output
unfoldable pub apply_refusal : Lent → List ℕ → List ℕ → ℕ
apply_refusal a z out = first_refusal 0 (lone_tests a ++ length_test (2 * a.cols) z ++ room_test (2 * a.rows) out)

-- the output: the words of the product, then what stood behind them
abbrev pub apply_out : Lent → List ℕ → List ℕ → List ℕ
apply_out a z out =
    unless_refused (apply_refusal a z out) (words (times (matrix_of a) (elements z)) ++ drop (2 * a.rows) out) out

-- ---- `eval_mle_table`: the matrix a, the row point r, the output out, the scratch s
-- those of a matrix alone; 11: the point; 15: the output or the scratch
unfoldable pub table_refusal : Lent → List ℕ → List ℕ → List ℕ → ℕ
table_refusal a r out s =
    first_refusal 0 (lone_tests a ++ length_test (2 * log₂ a.rows) r ++ room_test (2 * a.cols) out ++ room_test (2 * a.rows) s)

-- the output: the words of the table, then what stood behind them
abbrev pub table_out : Lent → List ℕ → List ℕ → List ℕ → List ℕ
table_out a r out s =
    unless_refused (table_refusal a r out s) (words (mle_table (matrix_of a) (elements r)) ++ drop (2 * a.cols) out) out

-- the scratch: zeros, two for each row, then what stood behind them
abbrev pub table_scratch : Lent → List ℕ → List ℕ → List ℕ → List ℕ
table_scratch a r out s =
    unless_refused (table_refusal a r out s) (replicate (2 * a.rows) 0 ++ drop (2 * a.rows) s) s

-- ---- `eval_mle_at`: the matrix a, the row point r, the column point c, the scratch s
-- those of a matrix alone; 11: the points; 15: the scratch
unfoldable pub at_refusal : Lent → List ℕ → List ℕ → List ℕ → ℕ
at_refusal a r c s =
    first_refusal 0
    (lone_tests a ++ length_test (2 * log₂ a.rows) r ++ length_test (2 * log₂ a.cols) c
    ++ room_test (2 * (a.rows + a.cols)) s)

-- the value of the extension, or the refusal
abbrev pub at_answer : Lent → List ℕ → List ℕ → List ℕ → Answer
at_answer a r c s = answered (at_refusal a r c s) (mle_at (matrix_of a) (elements r) (elements c))

-- the scratch: zeros, two for each row and column, then what stood behind them
abbrev pub at_scratch : Lent → List ℕ → List ℕ → List ℕ → List ℕ
at_scratch a r c s =
    unless_refused (at_refusal a r c s) (replicate (2 * (a.rows + a.cols)) 0 ++ drop (2 * (a.rows + a.cols)) s) s

-- ---- an answer that is yes or no, or the number of a refusal
pub data Flagged : Type 0 where
  flag : Bool → Flagged
  refusal : ℕ → Flagged

-- the answer that a result of the code is
abbrev pub flagged : Result Bool Refusal → Flagged
flagged (Ok b) = flag b
flagged (Err r) = refusal (number r)

-- the flag b, unless n is a refusal
abbrev pub flagged_of : ℕ → Bool → Flagged
flagged_of n b = unless_refused n (flag b) (refusal n)

-- ---- `is_binary`: the matrix a
-- those of a matrix alone
unfoldable pub binary_refusal : Lent → ℕ
binary_refusal a = first_refusal 0 (lone_tests a)

-- ---- `apply_simd_packed`: the matrix a, the packed words ws of q logins with w columns, the public words x, the output out
-- those of a matrix for a batch; 15: the output
unfoldable pub packed_refusal : Lent → List ℕ → List ℕ → ℕ → ℕ → List ℕ → ℕ
packed_refusal a ws x q w out = first_refusal 0 (batch_tests a ws x q w ++ room_test (q * (2 * a.rows)) out)

-- the output: the words of the products, one login behind the other, then what stood behind them
abbrev pub packed_out : Lent → List ℕ → List ℕ → ℕ → ℕ → List ℕ → List ℕ
packed_out a ws x q w out =
    unless_refused (packed_refusal a ws x q w out)
    (words (packed_table (matrix_of a) ws x q w) ++ drop (q * (2 * a.rows)) out) out

-- ---- `products_in`: the matrix a, whose entries are lent among others, the packed words ws of q logins with w columns, the public words
-- x, the output out
-- 1, 2, 3 and 4 of n rows for q logins of w columns, with p packed and k public words
abbrev pub logins_tests : (p k q w n : ℕ) → Tests
logins_tests p k q w n = size_tests (2 * w) q ++ (packed_tests_of w q p ++ (public_tests_of (2 * w) q k ++ rows_tests q n))

-- these, and 15: the output
unfoldable pub range_refusal : (n : ℕ) → (ws x : List ℕ) → (q w : ℕ) → (out : List ℕ) → ℕ
range_refusal n ws x q w out = first_refusal 0 (logins_tests (length ws) (length x) q w n ++ room_test (q * (2 * n)) out)

-- a matrix of n rows and m columns: the entries from a to b of those with these numbers
abbrev pub range_matrix : (n m a b : ℕ) → Numbers → Matrix
range_matrix n m a b s = record { rows = n; cols = m; entries = take (b - a) (drop a (entries_by s)) }

-- the output: the words of the products, one login behind the other, then what stood behind them
abbrev pub range_out : Matrix → (ws x : List ℕ) → (q w : ℕ) → (out : List ℕ) → List ℕ
range_out a ws x q w out =
    unless_refused (range_refusal a.rows ws x q w out)
    (words (packed_table a ws x q w) ++ drop (q * (2 * a.rows)) out) out

-- ---- `apply_simd_bit_masks`: the matrix a, the packed words ws of q logins with w columns, the number v, the output out
-- the tests of `apply_simd_packed` but those of the public words and the room
abbrev pub matrix_tests : Lent → List ℕ → ℕ → ℕ → Tests
matrix_tests a ws q w =
    size_tests (2 * w) q ++ packed_tests w q ws ++ rows_tests q a.rows ++ matrix_column_tests (2 * w) a.cols ++ counted a ++ placed a

-- 12: some output may be neither 0 nor 1, where bits is not true; 13: v is over log2 q, or over 6
abbrev pub mask_tests_of : Bool → ℕ → ℕ → Tests
mask_tests_of bits q v = (12, not bits) ∷ (13, ltb (log₂ q) v) ∷ (13, ltb 6 v) ∷ []

-- 12 and 13 of the matrix a for logins of w columns
abbrev pub mask_tests : Lent → ℕ → ℕ → ℕ → Tests
mask_tests a q w v = mask_tests_of (bit_valued w (matrix_of a)) q v

-- how many masks there are
abbrev pub mask_count : Lent → ℕ → ℕ → ℕ
mask_count a q v = 2 ^ (log₂ q - v) * a.rows

-- the tests of the matrix, then 12 and 13, then 15: the output
unfoldable pub masks_refusal : Lent → List ℕ → ℕ → ℕ → ℕ → List ℕ → ℕ
masks_refusal a ws q w v out = first_refusal 0 (matrix_tests a ws q w ++ mask_tests a q w v ++ room_test (mask_count a q v) out)

-- the output: the masks, then what stood behind them
abbrev pub masks_out : Lent → List ℕ → ℕ → ℕ → ℕ → List ℕ → List ℕ
masks_out a ws q w v out =
    unless_refused (masks_refusal a ws q w v out)
    (masks (matrix_of a) (unpacked q w ws) (2 ^ (log₂ q - v)) (2 ^ v) ++ drop (mask_count a q v) out) out
