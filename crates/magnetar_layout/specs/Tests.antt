-- The refusals 1 to 11 and 15 of document 01 as tests, each with its number. The first bad test gives the number of the refusal.
-- Source: document 01, "Who can be turned back".
-- Assumes nothing.
use Rattle.std.specs.Prelude.{◌≡◌, Bool, not, cond, ◌&&◌, List, [], ◌∷◌, ◌++◌, ℕ, ◌*◌, ◌-◌, ◌^◌, ◌≤◌, eqb, ltb, leb, length}
use Rattle.magnetar_field.specs.Sizes.{log₂, power_of_two}
use Rattle.magnetar_layout.specs.Every.{every}
pub use Rattle.magnetar_layout.specs.Limits.{most_columns, most_witness, most_logins, most_rows, most_batch_rows, most_entries, most_segments}
use Rattle.magnetar_layout.specs.Lent.{Lent}
use Rattle.magnetar_layout.specs.Layout.{is_length, layout_end}
use Rattle.magnetar_layout.specs.Login.{login_words}

-- the number of a refusal, and whether it applies
abbrev pub Tests : Type 0
Tests = List (ℕ × Bool)

-- an earlier number stays; else n where the test is bad. 0 is no refusal
unfoldable pub or_refuse : ℕ → Bool → ℕ → ℕ
or_refuse n bad a = cond (eqb a 0) (cond bad n 0) a

-- the first number whose test is bad, after an earlier number a
abbrev pub first_refusal : ℕ → Tests → ℕ
first_refusal a [] = a
first_refusal a (t ∷ l) = first_refusal (or_refuse t.0 t.1 a) l

-- n is a power of two from least to most
unfoldable pub is_size : ℕ → ℕ → ℕ → Bool
is_size least most n = leb least n && (leb n most && power_of_two n)

-- what a size that passes this test is
pub record Sized (least most n : ℕ) : Type 0 where
  pub low : least ≤ n
  pub high : n ≤ most
  pub power : n ≡ 2 ^ log₂ n

-- each number is below n
abbrev pub all_below : ℕ → List ℕ → Bool
all_below n s = every (λ x. ltb x n) s

-- ---- the tests; those whose names end in `Of` take how many words there are, the others the words
-- 1: the columns m
abbrev pub column_tests : ℕ → Tests
column_tests m = (1, not (is_size 2 most_columns m)) ∷ []

-- 1: the columns m, and the logins q
abbrev pub size_tests : ℕ → ℕ → Tests
size_tests m q = (1, not (is_size 2 most_columns m)) ∷ (1, not (is_size 1 most_logins q)) ∷ []

-- 2: the packed words of q logins with w columns
abbrev pub packed_tests_of : ℕ → ℕ → ℕ → Tests
packed_tests_of w q p = (2, not (eqb p (q * login_words w))) ∷ []

-- 2, of the packed words ws
abbrev pub packed_tests : ℕ → ℕ → List ℕ → Tests
packed_tests w q ws = packed_tests_of w q (length ws)

-- 3: the public words of q logins with m columns
abbrev pub public_tests_of : ℕ → ℕ → ℕ → Tests
public_tests_of m q k = (3, not (eqb k (q * (m - 2)))) ∷ []

-- 3, of the public words x
abbrev pub public_tests : ℕ → ℕ → List ℕ → Tests
public_tests m q x = public_tests_of m q (length x)

-- 4: the rows of a matrix
abbrev pub lone_row_tests : ℕ → Tests
lone_row_tests n = (4, not (is_size 1 most_rows n)) ∷ []

-- 4: the rows of a matrix, alone and for q logins
abbrev pub rows_tests : ℕ → ℕ → Tests
rows_tests q n = (4, not (is_size 1 most_rows n)) ∷ (4, ltb most_batch_rows (q * n)) ∷ []

-- 5: a matrix's columns n, where m are wanted
abbrev pub matrix_column_tests : ℕ → ℕ → Tests
matrix_column_tests m n = (5, not (eqb n m)) ∷ []

-- 6: how many entries there are, by the lengths of the four slices
abbrev pub count_tests : ℕ → ℕ → ℕ → ℕ → Tests
count_tests r c l h =
    (6, ltb most_entries r) ∷ (6, not (eqb c r)) ∷ (6, not (eqb l r)) ∷ (6, not (eqb h r)) ∷ []

-- 7: every entry lies inside its matrix
abbrev pub place_tests : ℕ → ℕ → List ℕ → List ℕ → Tests
place_tests rows cols row col = (7, not (all_below rows row)) ∷ (7, not (all_below cols col)) ∷ []

-- 6 of a lent matrix
abbrev pub counted : Lent → Tests
counted a = count_tests (length a.row) (length a.col) (length a.lo) (length a.hi)

-- 7 of a lent matrix
abbrev pub placed : Lent → Tests
placed a = place_tests a.rows a.cols a.row a.col

-- 8, 9, 10: the layout of segments of the lengths ns over w columns
abbrev pub layout_tests : ℕ → List ℕ → Tests
layout_tests w ns = (8, not (every (is_length w) ns)) ∷ (9, ltb w (layout_end ns)) ∷ (10, ltb most_segments (length ns)) ∷ []

-- 11: words that are not as many as the n that are wanted
abbrev pub length_test_of : ℕ → ℕ → Tests
length_test_of n k = (11, not (eqb k n)) ∷ []

-- 11, of the words s
abbrev pub length_test : ℕ → List ℕ → Tests
length_test n s = length_test_of n (length s)

-- 15: fewer words lent than the n that are wanted
abbrev pub room_test_of : ℕ → ℕ → Tests
room_test_of n k = (15, ltb k n) ∷ []

-- 15, of the words s
abbrev pub room_test : ℕ → List ℕ → Tests
room_test n s = room_test_of n (length s)

-- a matrix alone: m is its columns
abbrev pub lone_tests : Lent → Tests
lone_tests a = column_tests a.cols ++ lone_row_tests a.rows ++ counted a ++ placed a

-- a matrix for the packed words ws of q logins with w columns and the public words x
abbrev pub batch_tests : Lent → List ℕ → List ℕ → ℕ → ℕ → Tests
batch_tests a ws x q w =
    size_tests (2 * w) q ++ packed_tests w q ws ++ public_tests (2 * w) q x ++ rows_tests q a.rows ++ matrix_column_tests (2 * w) a.cols
    ++ counted a ++ placed a
