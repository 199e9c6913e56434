use Rattle.magnetar_prover.proofs.Turns.{Times}
use Rattle.magnetar_prover.proofs.schedule_run.draw_times.Given as goal

abbrev pub invariant-loop-i : goal.invariant-loop-i
invariant-loop-i l = Times l.label l.n l.initial.u l.initial.out l.i l.u l.out
