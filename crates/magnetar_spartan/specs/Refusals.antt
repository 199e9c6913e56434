-- The refusals 1 to 16 of both ends as tests, each with its number. The first bad test gives the number of the refusal.
-- Source: document 01, "Who can be turned back" and "The run" (scratch words).
-- Assumes nothing.
use Rattle.std.specs.Prelude.{List, ◌++◌, ℕ, ◌*◌, ◌/◌, length}
use Rattle.magnetar_layout.specs.Tests.{Tests, size_tests, packed_tests_of, public_tests_of, layout_tests, room_test_of}
use Rattle.magnetar_matrix.specs.Batch.{Relation}
use Rattle.magnetar_relation.specs.Rules.{Rules}
use Rattle.magnetar_relation.specs.RuleTests.{rule_tests}
use Rattle.magnetar_protocol.specs.Shape.{proof_elements, claim_count, sizes_only}
use Rattle.magnetar_protocol.specs.RunTests.{counter_tests, proof_tests_of}
use Rattle.magnetar_protocol.specs.Scratch.{verifier_scratch, prover_scratch}

-- 4 to 10: the rules
abbrev pub rules_tests : Rules → Tests
rules_tests R = rule_tests R ++ layout_tests (R.m / 2) R.lengths

-- ---- the row counts
abbrev pub rows_bin : Rules → ℕ
rows_bin R = R.shapes.bin.a.rows

abbrev pub rows_fld : Rules → ℕ
rows_fld R = R.shapes.fld.a.rows

-- the sizes of the relation, without its entries
abbrev pub sizes_only_of : Rules → Relation
sizes_only_of R = sizes_only R.m R.q (rows_bin R) (rows_fld R) R.lengths

-- ---- how many words are wanted
-- the proof
abbrev pub proof_words : Rules → ℕ
proof_words R = 2 * proof_elements (sizes_only_of R)

-- the claims
abbrev pub claim_words : Rules → ℕ
claim_words R = 2 * claim_count (sizes_only_of R)

-- the verifier's scratch
abbrev pub verifier_scratch_of : Rules → ℕ
verifier_scratch_of R = verifier_scratch R.m R.q (rows_bin R) (rows_fld R)

-- the prover's scratch
abbrev pub prover_scratch_of : Rules → ℕ
prover_scratch_of R = prover_scratch R.m R.q (rows_bin R) (rows_fld R)

-- ---- the verifier: public words x, proof words w, transcript's counter n, and how many words of claims and of scratch are lent
abbrev pub verify_tests : Rules → (x w : List ℕ) → (n claims scratch : ℕ) → Tests
verify_tests R x w n c s =
    size_tests R.m R.q ++ (public_tests_of R.m R.q (length x) ++ (rules_tests R ++ (counter_tests n ++ (room_test_of (claim_words R) c
    ++ (room_test_of (verifier_scratch_of R) s ++ proof_tests_of (sizes_only_of R) (length w))))))

-- ---- the prover: packed words ws, public words x, transcript's counter n, and how many words of proof, claims and scratch are lent
abbrev pub prove_tests : Rules → (ws x : List ℕ) → (n proof claims scratch : ℕ) → Tests
prove_tests R ws x n w c s =
    size_tests R.m R.q ++ (packed_tests_of (R.m / 2) R.q (length ws) ++ (public_tests_of R.m R.q (length x) ++ (rules_tests R ++ (counter_tests n
    ++ (room_test_of (proof_words R) w ++ (room_test_of (claim_words R) c ++ room_test_of (prover_scratch_of R) s))))))
