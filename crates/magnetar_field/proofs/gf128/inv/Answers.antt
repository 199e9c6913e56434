use Rattle.magnetar_field.specs.Gf128.{inverse}
use Rattle.magnetar_field.proofs.gf128.inv.Goals as goal

pub returns : goal.returns
unfolding inverse
returns c = c.pow.ensures
