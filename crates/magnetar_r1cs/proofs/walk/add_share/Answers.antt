use Rattle.magnetar_matrix.specs.Matrix.{share}
use Rattle.magnetar_matrix.proofs.TableLaws.{added-in}
use Rattle.magnetar_r1cs.proofs.walk.add_share.Goals as goal

pub returns : goal.returns
unfolding share
returns c = rw (c.add_at.ensures, added-in, c.scale.ensures, c.value.ensures, c.get.ensures)
