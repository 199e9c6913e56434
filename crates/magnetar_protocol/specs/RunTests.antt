-- The tests 1, 4, 8 to 11, 14 and 16 of a run, each with its number (document 01, "Who can be turned back"). The first bad test gives the
-- number of the refusal. Those whose names end in `Of` take how many words there are, the others the words.
-- Assumes nothing.
use Rattle.std.specs.Prelude.{not, List, [], ◌∷◌, ◌++◌, ℕ, ◌*◌, ◌/◌, ◌^◌, eqb, ltb, length}
use Rattle.magnetar_layout.specs.Tests.{Tests, size_tests, rows_tests, layout_tests, length_test}
use Rattle.magnetar_matrix.specs.Batch.{Relation}
use Rattle.magnetar_protocol.specs.Shape.{proof_elements}
use Rattle.magnetar_protocol.specs.Draws.{draw_count}

-- 1 and 4: the columns m, the logins q, and the rows b of bin and f of fld, alone and for all logins
abbrev pub run_tests : (m q b f : ℕ) → Tests
run_tests m q b f = size_tests m q ++ (rows_tests q b ++ rows_tests q f)

-- 1, 4 and 8 to 10: these, and segments of the lengths ns over m / 2 columns
abbrev pub outline_tests : (m q b f : ℕ) → List ℕ → Tests
outline_tests m q b f ns = run_tests m q b f ++ layout_tests (m / 2) ns

-- 11: not the words of as many elements as a run draws
abbrev pub draw_tests : Relation → List ℕ → Tests
draw_tests r draws = length_test (2 * draw_count r) draws

-- 14: the transcript's counter
abbrev pub counter_tests : ℕ → Tests
counter_tests n = (14, not (ltb n (2 ^ 32))) ∷ []

-- 16: not the words of a proof
abbrev pub proof_tests_of : Relation → ℕ → Tests
proof_tests_of r n = (16, not (eqb n (2 * proof_elements r))) ∷ []

-- 16, of the words w
abbrev pub proof_tests : Relation → List ℕ → Tests
proof_tests r w = proof_tests_of r (length w)
