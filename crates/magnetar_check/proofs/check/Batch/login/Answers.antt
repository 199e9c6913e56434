use Rattle.magnetar_relation.specs.Steps.{login_z}
use Rattle.magnetar_check.proofs.check.Batch.login.Goals as goal

pub returns : goal.returns
unfolding login_z
returns c = rw (c.part.ensures, c.columns.ensures)
