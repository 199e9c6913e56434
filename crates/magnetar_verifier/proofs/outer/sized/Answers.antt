use mathlib.Core.Path.{◌≡◌, ◌∙◌}
use Prim.Native.Nat.{◌*◌}
use native.Mathlib.Omega.{arith}
use lib.ListN.{length}
use borrow.Author.Tests.{eqb-true}
use Rattle.magnetar_field.specs.Sizes.{log₂}
use Rattle.magnetar_layout.specs.Tests.{or_refuse}
use Rattle.magnetar_layout.proofs.Passing.{passing, out-front, late, held}
use Rattle.magnetar_protocol.specs.Shape.{proof_total, sizes_only}
use Rattle.magnetar_protocol.specs.Draws.{draw_total}
use Rattle.magnetar_protocol.specs.RunTests.{outline_tests, draw_tests, proof_tests}
use Rattle.magnetar_protocol.proofs.Guards.{outlined-given}
use Rattle.magnetar_verifier.specs.Outer.{checks_refusal}
use Rattle.magnetar_verifier.proofs.Guards.{words_tests, fits-given}
use Rattle.magnetar_verifier.proofs.outer.sized.Goals as goal

pub returns-in_err-outline_refusal-clause-refusal : goal.returns-in_err-outline_refusal-clause-refusal
unfolding checks_refusal
returns-in_err-outline_refusal-clause-refusal c =
    let x = c.args in
    out-front (outline_tests x.m x.q x.rb x.rf x.lens.now) (words_tests x.m x.q x.rb x.rf x.lens.now x.proof.now x.draws.now) _ _
    c.from_residual.ensures.1 c.in_err-outline_refusal.ensures

pub returns-in_err-require-clause-refusal : goal.returns-in_err-require-clause-refusal
unfolding checks_refusal or_refuse
returns-in_err-require-clause-refusal c =
    let x = c.args in
    let e : c.draw_words.result ≡ 2 * draw_total (log₂ x.q) (log₂ x.rb) (log₂ x.rf) (log₂ x.m) = rw c.of-r.ensures.rounds at c.draw_words.ensures in
    late (outline_tests x.m x.q x.rb x.rf x.lens.now) (words_tests x.m x.q x.rb x.rf x.lens.now x.proof.now x.draws.now)
    c.in_ok-outline_refusal.ensures (grind (arith, passing))

pub overflow_cast-l : goal.overflow_cast-l
overflow_cast-l c =
    let x = c.args in
    omega (arith, (outlined-given x.m x.q x.rb x.rf x.lens.now c.in_ok-outline_refusal.ensures).few)

pub returns-in_err-require-2-clause-refusal : goal.returns-in_err-require-2-clause-refusal
unfolding checks_refusal or_refuse
returns-in_err-require-2-clause-refusal c =
    let x = c.args in
    let e : c.draw_words.result ≡ 2 * draw_total (log₂ x.q) (log₂ x.rb) (log₂ x.rf) (log₂ x.m) = rw c.of-r.ensures.rounds at c.draw_words.ensures in
    let k : c.proof_words.result ≡ 2 * proof_total (log₂ x.q) (log₂ x.rb) (log₂ x.rf) (log₂ x.m) (length x.lens.now) =
    rw c.of-r.ensures.rounds at c.proof_words.ensures in
    late (outline_tests x.m x.q x.rb x.rf x.lens.now) (words_tests x.m x.q x.rb x.rf x.lens.now x.proof.now x.draws.now)
    c.in_ok-outline_refusal.ensures
    (late (draw_tests (sizes_only x.m x.q x.rb x.rf x.lens.now) x.draws.now) (proof_tests (sizes_only x.m x.q x.rb x.rf x.lens.now) x.proof.now)
    (grind (arith, passing)) (grind (arith, passing)))

pub returns-clause-refusal : goal.returns-clause-refusal
unfolding checks_refusal or_refuse
returns-clause-refusal c =
    let x = c.args in
    let e : c.draw_words.result ≡ 2 * draw_total (log₂ x.q) (log₂ x.rb) (log₂ x.rf) (log₂ x.m) = rw c.of-r.ensures.rounds at c.draw_words.ensures in
    let k : c.proof_words.result ≡ 2 * proof_total (log₂ x.q) (log₂ x.rb) (log₂ x.rf) (log₂ x.m) (length x.lens.now) =
    rw c.of-r.ensures.rounds at c.proof_words.ensures in
    late (outline_tests x.m x.q x.rb x.rf x.lens.now) (words_tests x.m x.q x.rb x.rf x.lens.now x.proof.now x.draws.now)
    c.in_ok-outline_refusal.ensures (grind (arith, passing))

pub returns-clause-fits : goal.returns-clause-fits
returns-clause-fits c =
    let x = c.args in
    fits-given x.m x.q x.rb x.rf x.lens.now _ _ c.of-r.result c.of-r.ensures.rounds c.of-r.ensures.few c.in_ok-outline_refusal.ensures
    (eqb-true _ _ (held _ _ _ c.in_ok-require.ensures) ∙ c.draw_words.ensures)
    (eqb-true _ _ (held _ _ _ c.in_ok-require-2.ensures) ∙ c.proof_words.ensures)
