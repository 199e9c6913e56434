use Rattle.std.proofs.Common.{arith}
use Rattle.magnetar_prover.proofs.LaidOut.{copied_more}
use Rattle.magnetar_prover.proofs.inner.copy_down.Goals as goal

pub loop-i-preserved : goal.loop-i-preserved
loop-i-preserved c = copied_more c.args.n c.loop-i.i c.args.s.now c.loop-i.s c.loop-i.invariant (omega arith) (omega arith)
