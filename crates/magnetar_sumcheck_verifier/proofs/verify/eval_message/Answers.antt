use Rattle.std.proofs.Common.{arith}
use Rattle.magnetar_field.proofs.Elements.{elements-length}
use Rattle.magnetar_sumcheck_verifier.proofs.Horner.{evaluated-start, evaluated-more}
use Rattle.magnetar_sumcheck_verifier.proofs.verify.eval_message.Goals as goal

pub loop-i-init : goal.loop-i-init
loop-i-init c = grind (arith, evaluated-start, elements-length)

pub loop-i-preserved : goal.loop-i-preserved
loop-i-preserved c = grind (arith, evaluated-more)
