use Rattle.std.proofs.Common.{rules, arith}
use Rattle.magnetar_prover.proofs.Turns.{rounds-more, rounds-end}
use Rattle.magnetar_prover.proofs.schedule_run.run_rounds.Goals as goal

pub loop-i-preserved : goal.loop-i-preserved
loop-i-preserved c = rounds-more c.loop-i.invariant (omega arith) (search rules) c.round-u.ensures

pub returns : goal.returns
returns c = rounds-end c.loop-i.invariant (omega arith)
