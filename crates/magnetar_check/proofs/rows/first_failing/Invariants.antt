use Rattle.magnetar_field.specs.Words.{elements}
use Rattle.magnetar_matrix.specs.RowCheck.{holds_at}
use Rattle.magnetar_matrix.proofs.FirstRow.{Below}
use Rattle.magnetar_check.proofs.rows.first_failing.Given as goal

abbrev pub invariant-loop-row : goal.invariant-loop-row
invariant-loop-row l = Below (holds_at (elements l.s) l.n) l.row
