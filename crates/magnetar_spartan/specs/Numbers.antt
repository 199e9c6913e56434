-- What the refusals 1 to 10 leave of a run's sizes, and the tests behind them by numbers: o has the relation's sizes, and how many words each
-- slice has stands for its words. Only the contracts of private functions speak of this.
-- Assumes nothing.
use Rattle.std.specs.Prelude.{◌≡◌, List, ◌++◌, ℕ, ◌*◌, ◌≤◌, length}
use Rattle.magnetar_layout.specs.Tests.{Tests, first_refusal, room_test_of}
use Rattle.magnetar_matrix.specs.Batch.{Relation}
use Rattle.magnetar_protocol.specs.Shape.{proof_elements, claim_count}
use Rattle.magnetar_protocol.specs.RunTests.{run_tests, counter_tests, proof_tests_of}
use Rattle.magnetar_protocol.specs.Scratch.{verifier_scratch, prover_scratch}

-- m columns, q logins, and b and f rows within the limits, and few enough segments
pub record Outlined (m q b f : ℕ) (ns : List ℕ) : Type 0 where
  pub sizes : first_refusal 0 (run_tests m q b f) ≡ 0
  pub segments : length ns ≤ 64

-- 14 to 16 of the verifier: so many words w of proof, the counter n, so many words of claims and scratch
abbrev pub verify_lent_tests : Relation → (w n claims scratch : ℕ) → Tests
verify_lent_tests o w n c s =
    counter_tests n
    ++ (room_test_of (2 * claim_count o) c
    ++ (room_test_of (verifier_scratch o.m o.q o.bin.a.rows o.fld.a.rows) s ++ proof_tests_of o w))

-- 14 and 15 of the prover
abbrev pub prove_lent_tests : Relation → (n proof claims scratch : ℕ) → Tests
prove_lent_tests o n w c s =
    counter_tests n
    ++ (room_test_of (2 * proof_elements o) w
    ++ (room_test_of (2 * claim_count o) c ++ room_test_of (prover_scratch o.m o.q o.bin.a.rows o.fld.a.rows) s))
