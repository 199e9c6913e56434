use native.Mathlib.Omega.{arith}
use Rattle.magnetar_prover.proofs.Turns.{times_more}
use borrow.Author.Rules.{rules}
use Rattle.magnetar_prover.proofs.schedule_run.draw_times.Goals as goal

pub loop-i-preserved : goal.loop-i-preserved
loop-i-preserved c = times_more c.loop-i.invariant (omega arith) (search rules) c.draw_one-u.ensures
