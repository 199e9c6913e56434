use Rattle.std.proofs.Common.{arith}
use Rattle.magnetar_sumcheck_prover.proofs.Steps.{summed-start}
use Rattle.magnetar_sumcheck_prover.proofs.engine.Sums.over.Goals as goal

pub loop-i-init : goal.loop-i-init
loop-i-init g c = grind (arith, summed-start)
