use Rattle.magnetar_hash.specs.Bytes.{ascii}
use Rattle.magnetar_prover.proofs.events.value_z.Goals as goal

pub returns : goal.returns
unfolding ascii
returns c = c.absorb_words.ensures
