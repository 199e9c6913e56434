use Rattle.magnetar_hash.specs.Bytes.{ascii}
use Rattle.magnetar_schedule.specs.Schedule.{numbered}
use Rattle.magnetar_prover.proofs.events.row_round.Goals as goal

pub returns-in-Bin : goal.returns-in-Bin
unfolding ascii numbered
returns-in-Bin c = rw c.in-Bin.is c.round.ensures

pub returns-in-Fld : goal.returns-in-Fld
unfolding ascii numbered
returns-in-Fld c = rw c.in-Fld.is c.round-in-Fld.ensures
