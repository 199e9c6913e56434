use Rattle.std.proofs.Common.{arith}
use Rattle.magnetar_sumcheck_verifier.specs.Outcome.{check_outcome, round_refusal}
use Rattle.magnetar_sumcheck_verifier.proofs.Wanted.{left}
use Rattle.magnetar_sumcheck_verifier.proofs.verify.check_round.Goals as goal

pub returns-in_err-require : goal.returns-in_err-require
unfolding check_outcome round_refusal
returns-in_err-require c = grind (arith, left)

pub returns : goal.returns
unfolding check_outcome round_refusal
returns c = grind arith
