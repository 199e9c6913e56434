use Rattle.magnetar_hash.specs.Bytes.{ascii}
use Rattle.magnetar_prover.proofs.events.inner_round.Goals as goal

pub returns : goal.returns
unfolding ascii
returns c = c.round.ensures
