use native.Mathlib.Omega.{arith}
use Rattle.magnetar_layout.proofs.Passing.{out-front, late}
use Rattle.magnetar_protocol.specs.RunTests.{outline_tests}
use Rattle.magnetar_protocol.proofs.Guards.{outlined-given}
use Rattle.magnetar_prover.specs.Entries.{play_refusal}
use Rattle.magnetar_prover.proofs.PlayGuard.{later}
use Rattle.magnetar_prover.proofs.guard.of_play.Goals as goal

pub returns-in_err-outline_refusal : goal.returns-in_err-outline_refusal
unfolding play_refusal
returns-in_err-outline_refusal c =
    let x = c.args in
    out-front (outline_tests x.m x.q x.rb x.rf x.lens.now) (later x.m x.q x.rb x.rf x.lens.now x.proof.now x.draws.now x.t) _ _
    c.from_residual.ensures.1 c.in_err-outline_refusal.ensures

pub overflow_cast-l : goal.overflow_cast-l
overflow_cast-l c =
    let x = c.args in omega (arith, (outlined-given x.m x.q x.rb x.rf x.lens.now c.in_ok-outline_refusal.ensures).few)

pub returns : goal.returns
unfolding play_refusal
returns c =
    let x = c.args in
    late (outline_tests x.m x.q x.rb x.rf x.lens.now) (later x.m x.q x.rb x.rf x.lens.now x.proof.now x.draws.now x.t) c.in_ok-outline_refusal.ensures
    (rw (c.of_words.ensures, c.draw_words.ensures, c.proof_words-sent.ensures, c.of-rounds.ensures.rounds))
