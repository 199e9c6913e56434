use Rattle.std.proofs.Common.{arith}
use Rattle.std.proofs.lemmas.Bool.Decides.{nat_tests}
use Rattle.magnetar_sumcheck_verifier.specs.Outcome.{is_message}
use Rattle.magnetar_sumcheck_verifier.proofs.verify.is_message.Goals as goal

pub returns-then-msg-eq0 : goal.returns-then-msg-eq0
unfolding is_message
returns-then-msg-eq0 c = grind (arith, nat_tests)

pub returns-else-msg-eq0 : goal.returns-else-msg-eq0
unfolding is_message
returns-else-msg-eq0 c = grind (arith, nat_tests)
