use Rattle.std.specs.Prelude.{◌≡◌}
use Rattle.magnetar_field.specs.Words.{elements}
use Rattle.magnetar_matrix.specs.Table.{raised}
use Rattle.magnetar_batch.specs.Fold.{fold_sum}
use Rattle.magnetar_batch.proofs.fold.add_logins.Given as goal

abbrev pub invariant-loop-u : goal.invariant-loop-u
invariant-loop-u l = elements l.out ≡ raised (fold_sum l.w l.packed (elements l.factors) l.u) (elements l.initial.out)
