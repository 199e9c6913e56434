use Rattle.std.proofs.Common.{arith}
use Rattle.magnetar_sumcheck_prover.proofs.Steps.{summed-more}
use Rattle.magnetar_sumcheck_prover.proofs.engine.Sums.with_pair.Goals as goal

pub returns : goal.returns
returns g c = grind (arith, summed-more)
