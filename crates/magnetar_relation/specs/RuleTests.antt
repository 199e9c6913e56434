-- The refusals 4 to 7 of a relation as it is lent, as tests with their numbers: the first bad test gives the number of the refusal.
-- Source: document 01, "Who can be turned back", Rule author.
-- Assumes nothing.
use Rattle.std.specs.Prelude.{Bool, true, not, List, [], ◌∷◌, ◌++◌, ℕ, ◌+◌, ◌*◌, eqb, ltb}
use Rattle.magnetar_layout.specs.Tests.{Tests, is_size, most_rows, most_batch_rows, most_entries}
use Rattle.magnetar_relation.specs.declared.shapes.SystemShape.{SystemShape}
use Rattle.magnetar_relation.specs.declared.shapes.Shapes.{Shapes}
use Rattle.magnetar_relation.specs.Rules.{Rules, entries_in, relation_of, in_relation}

-- 4: the rows of the three matrices of a system, for q logins
abbrev pub row_tests : ℕ → SystemShape → Tests
row_tests q t =
    (4, not (is_size 1 most_rows t.a.rows)) ∷ (4, not (eqb t.b.rows t.a.rows)) ∷ (4, not (eqb t.c.rows t.a.rows))
    ∷ (4, ltb most_batch_rows (q * t.a.rows)) ∷ []

-- 5: their columns, where m are wanted
abbrev pub col_tests : ℕ → SystemShape → Tests
col_tests m t = (5, not (eqb t.a.cols m)) ∷ (5, not (eqb t.b.cols m)) ∷ (5, not (eqb t.c.cols m)) ∷ []

-- 6: a matrix with too many entries
abbrev pub most_tests : SystemShape → Tests
most_tests t = (6, ltb most_entries t.a.entries) ∷ (6, ltb most_entries t.b.entries) ∷ (6, ltb most_entries t.c.entries) ∷ []

-- 6: a slice that does not hold n numbers
abbrev pub number_tests : ℕ → List ℕ → Tests
number_tests n [] = []
number_tests n (k ∷ ks) = (6, not (eqb k n)) ∷ number_tests n ks

-- 4, 5 and 6: the shapes
abbrev pub shape_tests : (m q : ℕ) → Shapes → Tests
shape_tests m q s =
    row_tests q s.bin ++ (row_tests q s.fld ++ (col_tests m s.bin ++ (col_tests m s.fld ++ (most_tests s.bin ++ most_tests s.fld))))

-- how many entries all six matrices have
abbrev pub total : Shapes → ℕ
total s = entries_in s.bin + entries_in s.fld

-- 4 to 7: the shapes, how many numbers the slices hold, and whether each entry lies inside its matrix
unfoldable pub rule_tests_by : (m q : ℕ) → Shapes → List ℕ → Bool → Tests
rule_tests_by m q s ks inside = shape_tests m q s ++ (number_tests (total s) ks ++ ((7, not inside) ∷ []))

-- the same of a relation as it is lent
abbrev pub rule_tests : Rules → Tests
rule_tests R = rule_tests_by R.m R.q R.shapes R.numbers (in_relation (relation_of R))

-- a number that other tests gave, as a test
abbrev pub given : ℕ → Tests
given z = (z, true) ∷ []
