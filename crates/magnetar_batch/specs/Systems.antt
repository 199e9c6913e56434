-- The tests of what the combined table asks for besides the relation.
-- Assumes nothing.
use Rattle.std.specs.Prelude.{ℕ, ◌+◌, ◌*◌, max, ◌++◌}
use Rattle.magnetar_field.specs.Sizes.{log₂}
use Rattle.magnetar_layout.specs.Tests.{Tests, length_test_of, room_test_of}

-- 11: so many words of alphas, and of points for n and k rows
abbrev pub point_tests : (n k al p r : ℕ) → Tests
point_tests n k al p r = length_test_of 12 al ++ (length_test_of (2 * log₂ n) p ++ length_test_of (2 * log₂ k) r)

-- the words of the table of m elements and of the larger eq table, for n and k rows
abbrev pub table_scratch_words : (m n k : ℕ) → ℕ
table_scratch_words m n k = 2 * m + 2 * max n k

-- 15: so many words of scratch and of output
abbrev pub table_scratch_tests : (m n k scratch out : ℕ) → Tests
table_scratch_tests m n k scratch out = room_test_of (table_scratch_words m n k) scratch ++ room_test_of (2 * m) out
