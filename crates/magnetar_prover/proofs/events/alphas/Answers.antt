use Rattle.magnetar_hash.specs.Bytes.{ascii}
use Rattle.magnetar_prover.proofs.events.alphas.Goals as goal

pub returns : goal.returns
unfolding ascii
returns c = c.draw_vec.ensures
