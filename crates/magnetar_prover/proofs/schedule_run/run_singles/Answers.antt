use Rattle.std.proofs.Common.{arith}
use Rattle.magnetar_prover.proofs.Turns.{singles-more, singles-end}
use Rattle.magnetar_prover.proofs.schedule_run.run_singles.Goals as goal

pub loop-i-preserved : goal.loop-i-preserved
loop-i-preserved c = singles-more c.loop-i.invariant (omega arith) c.absorb_one-u.ensures

pub returns : goal.returns
returns c = singles-end c.loop-i.invariant (omega arith)
