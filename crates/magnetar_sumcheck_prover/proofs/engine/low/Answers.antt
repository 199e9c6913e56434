use native.Mathlib.Omega.{arith}
use Rattle.magnetar_sumcheck_prover.proofs.Steps.{shifted-le, low-is}
use Rattle.magnetar_sumcheck_prover.proofs.engine.low.Goals as goal

pub returns : goal.returns
returns c = let x = c.args in (
  low-is x.i x.v c.block.result c.block.ensures,
  omega
      (arith, shifted-le x.i x.v c.block.result c.block.ensures),
)
