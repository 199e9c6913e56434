use Rattle.magnetar_field.specs.Words.{elements}
use Rattle.magnetar_prover.specs.Labels.{label_bytes}
use Rattle.magnetar_prover.proofs.Turns.{Rounds}
use Rattle.magnetar_prover.proofs.schedule_run.run_rounds.Given as goal

abbrev pub invariant-loop-i : goal.invariant-loop-i
invariant-loop-i l = Rounds (elements l.proof) (label_bytes l.label) l.k l.n l.initial.u l.initial.out l.i l.u l.out
