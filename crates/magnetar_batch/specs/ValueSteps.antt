-- How the combined table's value at a column point is made, call by call: what the loops over the entries leave, in whichever form these are
-- lent. Only the contracts of private functions cite these definitions.
-- Assumes nothing.
use Rattle.std.specs.Prelude.{ℕ, ◌+◌, ◌*◌, min, max, Bool, cond, ◌&&◌, List, length, take, nat_le, slice_index_or}
use Rattle.magnetar_field.specs.Gf128.{◌⊕◌, ◌⊗◌}
use Rattle.magnetar_field.specs.Words.{elements}
use Rattle.magnetar_multilinear.specs.Multilinear.{mle}
use Rattle.magnetar_layout.specs.Tests.{is_size, most_rows}
use Rattle.magnetar_matrix.specs.Matrix.{Entry, System, swapped}
use Rattle.magnetar_matrix.specs.Batch.{Relation}
use Rattle.magnetar_relation.specs.Steps.{cleared_to, column_added}
use Rattle.magnetar_relation.specs.EntryWalks.{fold_entries}
use Rattle.magnetar_batch.specs.TableSteps.{eq_behind, point_in}

-- ---- a table of n elements in front of the words
-- n is a size, and they are so many
abbrev pub fits_front : ℕ → List ℕ → Bool
fits_front n s = is_size 1 most_rows n && nat_le (2 * n) (length s)

-- its value at the point p; 0 where it does not fit
unfoldable pub front_value : (n : ℕ) → (p s : List ℕ) → ℕ
front_value n p s = cond (fits_front n s) (mle (take n (elements s)) (elements (point_in n p))) 0

-- and 0 in its place
unfoldable pub front_cleared : ℕ → List ℕ → List ℕ
front_cleared n s = cond (fits_front n s) (cleared_to n s) s

-- ---- one matrix, by the m factors behind the first k elements
-- the entry's value times the factor at its column, added to the element at its row
abbrev pub row_added : (k m : ℕ) → Entry → List ℕ → List ℕ
row_added k m e s = column_added k m (swapped e) s

-- the entries' rows, in the first k elements
abbrev pub rows_made : (k m : ℕ) → List Entry → List ℕ → List ℕ
rows_made k m es s = fold_entries (row_added k m) es (cleared_to k s)

-- the first n of them at the point p, and what is left then
unfoldable pub matrix_value : (k m n : ℕ) → (p : List ℕ) → List Entry → List ℕ → ℕ
matrix_value k m n p es s = front_value n p (rows_made k m es s)

unfoldable pub matrix_left : (k m n : ℕ) → List Entry → List ℕ → List ℕ
matrix_left k m n es s = front_cleared n (rows_made k m es s)

-- ---- three matrices
-- a, b and c, times the alphas from j on
abbrev pub weighed : (al : List ℕ) → (j a b c : ℕ) → ℕ
weighed al j a b c = slice_index_or (elements al) j 0 ⊗ a ⊕ slice_index_or (elements al) (j + 1) 0 ⊗ b ⊕ slice_index_or (elements al) (j + 2) 0 ⊗ c

-- those of a system, one after the other
unfoldable pub system_left : (k m : ℕ) → System → List ℕ → List ℕ
system_left k m t s =
    let n = t.a.rows in
    matrix_left k m n t.c.entries (matrix_left k m n t.b.entries (matrix_left k m n t.a.entries s))

unfoldable pub system_value : (k m : ℕ) → (al : List ℕ) → (j : ℕ) → (p : List ℕ) → System → List ℕ → ℕ
system_value k m al j p t s =
    let n = t.a.rows in
    let s₁ = matrix_left k m n t.a.entries s in
    let s₂ = matrix_left k m n t.b.entries s₁ in
    weighed al (min j 3) (matrix_value k m n p t.a.entries s) (matrix_value k m n p t.b.entries s₁) (matrix_value k m n p t.c.entries s₂)

-- ---- all six, at the row points p and r and the column point c
abbrev pub larger_rows : Relation → ℕ
larger_rows R = max R.bin.a.rows R.fld.a.rows

-- the factors in their place
abbrev pub factors_behind : Relation → (c s : List ℕ) → List ℕ
factors_behind R c s = eq_behind (larger_rows R) 1 (point_in R.m c) s

unfoldable pub six_value : Relation → (al p r c s : List ℕ) → ℕ
six_value R al p r c s =
    let k = larger_rows R in
    let s₁ = factors_behind R c s in
    system_value k R.m al 0 p R.bin s₁ ⊕ system_value k R.m al 3 r R.fld (system_left k R.m R.bin s₁)

unfoldable pub six_left : Relation → (c s : List ℕ) → List ℕ
six_left R c s =
    let k = larger_rows R in
    cleared_to (k + R.m) (system_left k R.m R.fld (system_left k R.m R.bin (factors_behind R c s)))
