use Rattle.magnetar_field.proofs.Elements.{elements-stored}
use Rattle.magnetar_multilinear.proofs.eq.split_entry.Goals as goal

pub returns : goal.returns
returns c = rw (c.put-2.ensures, elements-stored, c.put.ensures, elements-stored, c.add.ensures, c.mul-t.ensures, c.get-v.ensures)
