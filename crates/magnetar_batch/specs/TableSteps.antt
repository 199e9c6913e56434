-- How the combined table is made, call by call: what the loops over the entries leave, in whichever form these are lent. Contracts of
-- private functions, and of those that the run calls, cite these definitions.
-- Source: the Rust's `build_m_combo`, entry by entry.
-- Assumes nothing.
use Rattle.std.specs.Prelude.{ℕ, ◌+◌, ◌*◌, min, max, cond, List, ◌++◌, length, take, drop, replicate, nat_le, slice_index}
use Rattle.magnetar_field.specs.Sizes.{log₂}
use Rattle.magnetar_field.specs.Words.{elements, overlaid}
use Rattle.magnetar_multilinear.specs.Entries.{eq_out}
use Rattle.magnetar_matrix.specs.Matrix.{Matrix, System}
use Rattle.magnetar_matrix.specs.Batch.{Relation}
use Rattle.magnetar_relation.specs.Steps.{behind, cleared_to, column_added}
use Rattle.magnetar_relation.specs.EntryWalks.{fold_entries}

-- the eq table of the point p, from c, behind the first m elements; nothing where they are fewer
unfoldable pub eq_behind : ℕ → ℕ → List ℕ → List ℕ → List ℕ
eq_behind m c p s = behind m (eq_out p c) s

-- 0 in the k elements behind the first m; nothing where they are fewer
unfoldable pub cleared_behind : ℕ → ℕ → List ℕ → List ℕ
cleared_behind m k s =
    cond (nat_le (2 * m + 2 * k) (length s)) (take (2 * m) s ++ (replicate (2 * k) 0 ++ drop (2 * m + 2 * k) s)) s

-- the words, and 0 behind them, n in all
abbrev pub padded : ℕ → List ℕ → List ℕ
padded n ws = overlaid ws (replicate n 0)

-- the words of a point for n rows, in front of p
abbrev pub point_in : ℕ → List ℕ → List ℕ
point_in n p = take (min (2 * log₂ n) 32) p

-- a matrix, for n rows, times alpha k at the row point p, added to the table of m elements
abbrev pub matrix_added : (m n : ℕ) → (al : List ℕ) → (k : ℕ) → (p : List ℕ) → Matrix → List ℕ → List ℕ
matrix_added m n al k p a s = fold_entries (column_added m n) a.entries (eq_behind m (slice_index (elements al) k) (point_in n p) s)

-- the three matrices of a system, the first one with alpha k
abbrev pub system_added : (m : ℕ) → (al : List ℕ) → (k : ℕ) → (p : List ℕ) → System → List ℕ → List ℕ
system_added m al k p t s =
    matrix_added m t.a.rows al (k + 2) p t.c (matrix_added m t.a.rows al (k + 1) p t.b (matrix_added m t.a.rows al k p t.a s))

-- the six of them on a table of 0, and 0 behind it
abbrev pub table_made : Relation → (al p r s : List ℕ) → List ℕ
table_made R al p r s =
    cleared_behind R.m (max R.bin.a.rows R.fld.a.rows) (system_added R.m al 3 r R.fld (system_added R.m al 0 p R.bin (cleared_to R.m s)))
