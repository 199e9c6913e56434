use Rattle.magnetar_matrix.specs.Matrix.{share}
use Rattle.magnetar_field.proofs.Product.{⊗-comm}
use Rattle.magnetar_check.specs.CheckSteps.{share_added}
use Rattle.magnetar_check.proofs.check.add_share.Goals as goal

pub returns : goal.returns
unfolding share share_added
returns c = rw (c.add_behind.ensures, c.scale.ensures, c.z_of-f.ensures, c.value.ensures, ⊗-comm)
