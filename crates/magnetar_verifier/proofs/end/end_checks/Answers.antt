use mathlib.Core.Path.{◌≡◌, sym, ap, ◌∙◌}
use Prim.Native.Nat.{◌*◌}
use native.Mathlib.Omega.{arith}
use lib.ListN.{length}
use Rattle.magnetar_field.specs.Gf128.{value}
use Rattle.magnetar_field.specs.Sizes.{log₂}
use Rattle.magnetar_field.specs.Words.{elements}
use Rattle.magnetar_field.proofs.Elements.{elements-length}
use Rattle.magnetar_protocol.specs.Shape.{proof_total, sizes_only}
use Rattle.magnetar_protocol.specs.Found.{first_found}
use Rattle.magnetar_verifier.specs.End.{end_found}
use Rattle.magnetar_verifier.proofs.Guards.{bad-out, good-out}
use Rattle.magnetar_verifier.proofs.EndPhases.{cols, end_is, end-finds}
use Rattle.magnetar_verifier.proofs.end.end_checks.Goals as goal

pub returns-in_err-r : goal.returns-in_err-r
unfolding end_found
returns-in_err-r c = bad-out _ _ _ c.from_residual.ensures.1 c.in_err-r.ensures.refusal

pub returns : goal.returns
unfolding end_found
returns c =
    let x = c.args in
    let w = elements x.proof.now in
    let d = elements x.draws.now in
    let g = c.in_ok-r.ensures in
    let k = cols x.m (log₂ x.m) g.fits.columns (rw g.rounds at g.fits.cols) in
    let e : length x.proof.now ≡ 2 * proof_total (log₂ x.q) (log₂ x.rb) (log₂ x.rf) (log₂ x.m) (length x.lens.now) = rw g.rounds at g.fits.exact in
    good-out g.refusal (c.end_phases.ensures ∙ rw g.rounds
    (end-finds (log₂ x.q) (log₂ x.rb) (log₂ x.rf) (log₂ x.m) x.lens.now w d (value x.v) (value x.p)
    ∙ ap first_found (sym (end_is (sizes_only x.m x.q x.rb x.rf x.lens.now) w d (value x.v) (value x.p)
    (omega (arith, e, elements-length x.proof.now)) k.pos))))
