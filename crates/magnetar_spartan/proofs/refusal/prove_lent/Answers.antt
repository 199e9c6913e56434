use native.Mathlib.Omega.{arith}
use mathlib.Core.List.{◌++◌}
use Prim.Native.Nat.{◌*◌}
use Rattle.magnetar_field.specs.declared.refusal.Refusal.TheVariants.{Counter}
use Rattle.magnetar_layout.specs.Tests.{Tests, room_test_of}
use Rattle.magnetar_matrix.specs.Batch.{Relation}
use Rattle.magnetar_protocol.specs.RunTests.{counter_tests}
use Rattle.magnetar_protocol.specs.Scratch.{prover_scratch}
use Rattle.magnetar_protocol.specs.Shape.{proof_elements, claim_count, sizes_only}
use Rattle.magnetar_layout.proofs.Passing.{out-front, late, required}
use Rattle.magnetar_spartan.proofs.Chains.{roomy, prover-asks, prover-asked, proof-is, claims-are}
use Rattle.magnetar_spartan.proofs.refusal.prove_lent.Goals as goal

pub overflow_cast-l : goal.overflow_cast-l
overflow_cast-l c = omega (arith, c.requires.segments)

pub returns-in_err-require : goal.returns-in_err-require
returns-in_err-require c =
    let x = c.args in
    let o : Relation = sizes_only x.m x.q x.sh.bin.a.rows x.sh.fld.a.rows x.lens.now in
    let P : Tests = room_test_of (2 * proof_elements o) x.proof in
    let C : Tests = room_test_of (2 * claim_count o) x.claims in
    let S : Tests = room_test_of (prover_scratch x.m x.q x.sh.bin.a.rows x.sh.fld.a.rows) x.scratch in
    out-front (counter_tests x.n) (P ++ (C ++ S)) _ _ c.from_residual.ensures.1 (rw c.in_err-require.was at (required _ _ Counter c.require.ensures))

pub returns-in_err-require-2 : goal.returns-in_err-require-2
returns-in_err-require-2 c =
    let x = c.args in
    let o : Relation = sizes_only x.m x.q x.sh.bin.a.rows x.sh.fld.a.rows x.lens.now in
    let P : Tests = room_test_of (2 * proof_elements o) x.proof in
    let C : Tests = room_test_of (2 * claim_count o) x.claims in
    let S : Tests = room_test_of (prover_scratch x.m x.q x.sh.bin.a.rows x.sh.fld.a.rows) x.scratch in
    let sent = proof-is x.m x.q x.sh.bin.a.rows x.sh.fld.a.rows x.lens.now _ _ c.of-rounds.ensures.rounds c.proof_words.ensures in
    late (counter_tests x.n) (P ++ (C ++ S)) (rw c.in_ok-require.was at (required _ _ Counter c.require.ensures))
    (out-front P (C ++ S) _ _ c.from_residual-in_err-require-2.ensures.1 (rw c.in_err-require-2.was at (roomy _ _ _ _ sent c.require-2.ensures)))

pub returns-in_err-require-3 : goal.returns-in_err-require-3
returns-in_err-require-3 c =
    let x = c.args in
    let o : Relation = sizes_only x.m x.q x.sh.bin.a.rows x.sh.fld.a.rows x.lens.now in
    let P : Tests = room_test_of (2 * proof_elements o) x.proof in
    let C : Tests = room_test_of (2 * claim_count o) x.claims in
    let S : Tests = room_test_of (prover_scratch x.m x.q x.sh.bin.a.rows x.sh.fld.a.rows) x.scratch in
    let sent = proof-is x.m x.q x.sh.bin.a.rows x.sh.fld.a.rows x.lens.now _ _ c.of-rounds.ensures.rounds c.proof_words.ensures in
    let few = claims-are x.m x.q x.sh.bin.a.rows x.sh.fld.a.rows x.lens.now _ _ c.of-rounds.ensures.rounds c.claim_words.ensures in
    late (counter_tests x.n) (P ++ (C ++ S)) (rw c.in_ok-require.was at (required _ _ Counter c.require.ensures))
    (late P (C ++ S) (rw c.in_ok-require-2.was at (roomy _ _ _ _ sent c.require-2.ensures))
    (out-front C S _ _ c.from_residual-in_err-require-3.ensures.1 (rw c.in_err-require-3.was at (roomy _ _ _ _ few c.require-3.ensures))))

pub returns-in_err-prover_scratch : goal.returns-in_err-prover_scratch
returns-in_err-prover_scratch c =
    let x = c.args in
    absurd (prover-asks x.m x.q x.sh.bin.a.rows x.sh.fld.a.rows c.requires.sizes _ c.in_err-prover_scratch.ensures)

pub returns : goal.returns
returns c =
    let x = c.args in
    let o : Relation = sizes_only x.m x.q x.sh.bin.a.rows x.sh.fld.a.rows x.lens.now in
    let P : Tests = room_test_of (2 * proof_elements o) x.proof in
    let C : Tests = room_test_of (2 * claim_count o) x.claims in
    let S : Tests = room_test_of (prover_scratch x.m x.q x.sh.bin.a.rows x.sh.fld.a.rows) x.scratch in
    let sent = proof-is x.m x.q x.sh.bin.a.rows x.sh.fld.a.rows x.lens.now _ _ c.of-rounds.ensures.rounds c.proof_words.ensures in
    let few = claims-are x.m x.q x.sh.bin.a.rows x.sh.fld.a.rows x.lens.now _ _ c.of-rounds.ensures.rounds c.claim_words.ensures in
    late (counter_tests x.n) (P ++ (C ++ S)) (rw c.in_ok-require.was at (required _ _ Counter c.require.ensures))
    (late P (C ++ S) (rw c.in_ok-require-2.was at (roomy _ _ _ _ sent c.require-2.ensures))
    (late C S (rw c.in_ok-require-3.was at (roomy _ _ _ _ few c.require-3.ensures))
    (roomy _ _ _ _ (prover-asked x.m x.q x.sh.bin.a.rows x.sh.fld.a.rows c.requires.sizes _ c.in_ok-prover_scratch.ensures) c.require-4.ensures)))
