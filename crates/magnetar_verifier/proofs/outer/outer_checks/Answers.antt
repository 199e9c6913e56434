use mathlib.Core.Path.{◌∙◌}
use native.Mathlib.Omega.{arith}
use Rattle.magnetar_field.specs.Words.{elements}
use Rattle.magnetar_field.proofs.Elements.{elements-length}
use Rattle.magnetar_protocol.specs.Shape.{sizes_only}
use Rattle.magnetar_verifier.specs.Outer.{outer_found}
use Rattle.magnetar_verifier.proofs.Guards.{bad-out, good-out}
use Rattle.magnetar_verifier.proofs.OuterPhases.{outer-found}
use Rattle.magnetar_verifier.proofs.outer.outer_checks.Goals as goal

pub returns-in_err-r : goal.returns-in_err-r
unfolding outer_found
returns-in_err-r c = bad-out _ _ _ c.from_residual.ensures.1 c.in_err-r.ensures.refusal

pub returns : goal.returns
unfolding outer_found
returns c =
    let x = c.args in
    let g = c.in_ok-r.ensures in
    let drawn = rw g.rounds at g.fits.drawn in
    good-out g.refusal (c.outer_phases.ensures ∙ rw g.rounds
    (outer-found (sizes_only x.m x.q x.rb x.rf x.lens.now) (elements x.proof.now) (elements x.draws.now)
    (omega (arith, drawn, elements-length x.draws.now))))
