use Rattle.magnetar_field.specs.Words.{elements}
use Rattle.magnetar_prover.specs.Labels.{label_bytes}
use Rattle.magnetar_prover.proofs.Turns.{Singles}
use Rattle.magnetar_prover.proofs.schedule_run.run_singles.Given as goal

abbrev pub invariant-loop-i : goal.invariant-loop-i
invariant-loop-i l = Singles (elements l.proof) (label_bytes l.label) l.n l.initial.u l.i l.u
