use mathlib.Core.Path.{◌≡◌, sym, ap, ◌∙◌}
use native.Mathlib.Omega.{arith}
use Rattle.magnetar_field.specs.Gf128.{value}
use Rattle.magnetar_field.specs.Number.{number}
use Rattle.magnetar_layout.proofs.Refused.{number-positive}
use Rattle.magnetar_protocol.proofs.Finding.{handed-found}
use Rattle.magnetar_sumcheck_verifier.specs.Outcome.{RoundLeft}
use Rattle.magnetar_sumcheck_verifier.proofs.Wanted.{check-sized}
use Rattle.magnetar_verifier.proofs.found.round.Goals as goal

-- a message of n elements is not refused
pub returns-in_err-next-clause-found : goal.returns-in_err-next-clause-found
returns-in_err-next-clause-found c =
    let x = c.args in
    let e = c.in_err-next.ensures ∙ sym (check-sized x.n x.msg.now (value x.claim) (value x.r) c.requires) in
    let k : number c.in_err-next.field-0.0 ≡ 0 = ap (λ (o : RoundLeft). o.code) e in
    let p = number-positive c.in_err-next.field-0.0 in
    absurd (omega arith)

pub returns-in_err-pass-clause-found : goal.returns-in_err-pass-clause-found
returns-in_err-pass-clause-found c =
    let x = c.args in
    let e = c.in_ok-next.ensures ∙ sym (check-sized x.n x.msg.now (value x.claim) (value x.r) c.requires) in
    handed-found _ _ c.from_residual-in_err-pass.ensures.1 ∙ c.in_err-pass.ensures ∙ rw (ap (λ (o : RoundLeft). o.holds) e)

pub returns : goal.returns
returns c =
    let x = c.args in
    let e = c.in_ok-next.ensures ∙ sym (check-sized x.n x.msg.now (value x.claim) (value x.r) c.requires) in record {
      found = c.in_ok-pass.ensures ∙ rw (ap (λ (o : RoundLeft). o.holds) e);
      claim = ap (λ (o : RoundLeft). o.claim) e;
    }
