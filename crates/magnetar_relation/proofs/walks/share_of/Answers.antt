use Rattle.magnetar_field.proofs.Product.{⊗-comm}
use Rattle.magnetar_matrix.specs.Matrix.{share}
use Rattle.magnetar_relation.specs.Steps.{login_z}
use Rattle.magnetar_relation.proofs.walks.share_of.Goals as goal

pub returns : goal.returns
unfolding share login_z
returns c = rw (c.scale.ensures, c.z_of.ensures, c.value.ensures, c.columns-x.ensures, c.part-bits.ensures) (⊗-comm _ _)
