use Rattle.magnetar_hash.specs.Bytes.{ascii}
use Rattle.magnetar_schedule.specs.Schedule.{numbered}
use Rattle.magnetar_prover.proofs.events.segment.Goals as goal

pub returns : goal.returns
unfolding ascii numbered
returns c = c.absorb.ensures
