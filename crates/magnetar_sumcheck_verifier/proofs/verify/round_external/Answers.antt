use Rattle.std.proofs.Common.{arith}
use Rattle.magnetar_sumcheck_verifier.specs.Outcome.{check_outcome, round_outcome, round_refusal}
use Rattle.magnetar_sumcheck_verifier.specs.Round.{next_claim}
use Rattle.magnetar_sumcheck_verifier.proofs.Wanted.{left}
use Rattle.magnetar_sumcheck_verifier.proofs.verify.round_external.Goals as goal

pub returns-in_err-next : goal.returns-in_err-next
unfolding check_outcome round_outcome round_refusal
returns-in_err-next c = grind (arith, left)

pub returns-then-next : goal.returns-then-next
unfolding check_outcome round_outcome round_refusal next_claim
returns-then-next c = grind arith

pub returns : goal.returns
unfolding check_outcome round_outcome round_refusal next_claim
returns c = grind arith
