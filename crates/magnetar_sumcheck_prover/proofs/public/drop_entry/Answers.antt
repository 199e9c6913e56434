use Rattle.magnetar_field.proofs.Elements.{elements-stored}
use Rattle.magnetar_sumcheck_prover.proofs.public.drop_entry.Goals as goal

pub returns : goal.returns
returns c = rw (c.put.ensures, elements-stored, c.slope-s.ensures)
