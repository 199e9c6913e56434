use Rattle.magnetar_hash.specs.Sponge.{started}
use Rattle.magnetar_hash.proofs.Stream.{fed-join}
use Rattle.magnetar_hash.proofs.hasher.start.Goals as goal

pub returns : goal.returns
unfolding started
returns c =
    (fed-join (fed-join (rw c.empty-sponge.ensures at c.feed_word.ensures) c.feed_part.ensures) c.feed_word-2.ensures).state
