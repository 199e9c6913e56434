use Rattle.magnetar_multilinear.specs.Multilinear.{line}
use Rattle.magnetar_field.proofs.Elements.{elements-stored}
use Rattle.magnetar_multilinear.proofs.multilinear.bind_entry.Goals as goal

pub returns : goal.returns
unfolding line
returns c = rw (c.put.ensures, elements-stored, c.add-2.ensures, c.mul.ensures, c.add.ensures, c.get-a.ensures, c.get-b.ensures)
