use Rattle.magnetar_hash.specs.Bytes.{ascii}
use Rattle.magnetar_prover.proofs.events.tau.Goals as goal

pub returns-in-Bin : goal.returns-in-Bin
unfolding ascii
returns-in-Bin c = rw c.in-Bin.is c.draw_vec.ensures

pub returns-in-Fld : goal.returns-in-Fld
unfolding ascii
returns-in-Fld c = rw c.in-Fld.is c.draw_vec-in-Fld.ensures
