use mathlib.Core.Path.{◌∙◌}
use Rattle.magnetar_field.specs.Gf128.{value}
use Rattle.magnetar_field.specs.Words.{elements}
use Rattle.magnetar_protocol.proofs.Finding.{handed-found, both-front, both-late}
use Rattle.magnetar_verifier.proofs.EndPhases.{rounds-failed, end-found}
use Rattle.magnetar_verifier.proofs.end.end_phases.Goals as goal

pub returns-in_err-claim : goal.returns-in_err-claim
returns-in_err-claim c =
    let x = c.args in
    let r = x.r in
    handed-found _ _ c.from_residual.ensures.1
    ∙ rounds-failed r.shared r.bin r.fld r.inner x.lens.now (elements x.proof.now) (elements x.draws.now) (value x.v) (value x.p) _ c.in_err-claim.ensures.found

pub returns-in_err-pass : goal.returns-in_err-pass
returns-in_err-pass c =
    let x = c.args in
    let r = x.r in
    handed-found _ _ c.from_residual-in_err-pass.ensures.1
    ∙ end-found r.shared r.bin r.fld r.inner x.lens.now (elements x.proof.now) (elements x.draws.now) (value x.v) (value x.p)
    c.in_ok-claim.ensures.found (value c.in_ok-claim.claim) c.inner_finish-y.result _ c.in_ok-claim.ensures.claim
    (c.inner_finish-y.ensures ∙ rw (c.get.ensures, c.end.ensures)) (both-front _ _ _ (c.in_err-pass.ensures ∙ rw c.outer_events.ensures))

pub returns : goal.returns
returns c =
    let x = c.args in
    let r = x.r in
    end-found r.shared r.bin r.fld r.inner x.lens.now (elements x.proof.now) (elements x.draws.now) (value x.v) (value x.p)
    c.in_ok-claim.ensures.found (value c.in_ok-claim.claim) c.inner_finish-y.result _ c.in_ok-claim.ensures.claim
    (c.inner_finish-y.ensures ∙ rw (c.get.ensures, c.end.ensures))
    (both-late _ _ (c.in_ok-pass.ensures ∙ rw c.outer_events.ensures) (c.pass-2.ensures ∙ rw (c.identity_holds-z.ensures, c.outer_events.ensures)))
