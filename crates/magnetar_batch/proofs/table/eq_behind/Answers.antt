use mathlib.Core.Path.{◌∙◌}
use Rattle.magnetar_batch.proofs.table.eq_behind.Goals as goal

pub returns : goal.returns
returns c = c.eq_from.ensures ∙ rw c.get-c.ensures
