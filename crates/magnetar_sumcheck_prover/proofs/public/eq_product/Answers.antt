use Rattle.std.proofs.Common.{arith}
use Rattle.magnetar_field.proofs.Elements.{elements-length}
use Rattle.magnetar_sumcheck_prover.proofs.EqFactor.{multiplied-start, multiplied-more, point_at, length-point}
use Rattle.magnetar_sumcheck_prover.proofs.public.eq_product.Goals as goal

pub loop-j-init : goal.loop-j-init
loop-j-init c = grind (arith, multiplied-start, elements-length)

pub loop-j-preserved : goal.loop-j-preserved
loop-j-preserved c = grind (arith, multiplied-more, point_at, length-point, elements-length)
