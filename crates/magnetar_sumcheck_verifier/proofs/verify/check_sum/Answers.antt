use Rattle.std.proofs.Common.{arith}
use Rattle.magnetar_field.proofs.Elements.{elements-length}
use Rattle.magnetar_sumcheck_verifier.proofs.Horner.{summed-start, summed-more, summed-end}
use Rattle.magnetar_sumcheck_verifier.proofs.verify.check_sum.Goals as goal

pub loop-i-init : goal.loop-i-init
loop-i-init c = grind (arith, summed-start, elements-length)

pub loop-i-preserved : goal.loop-i-preserved
loop-i-preserved c = grind (arith, summed-more)

pub returns : goal.returns
returns c = summed-end _ _ _ c.loop-i.invariant (omega arith)
