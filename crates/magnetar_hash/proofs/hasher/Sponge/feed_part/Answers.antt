use Rattle.std.proofs.Common.{refl}
use Rattle.magnetar_hash.proofs.Parts.{part-fed}
use Rattle.magnetar_hash.proofs.hasher.Sponge.feed_part.Goals as goal

pub returns : goal.returns
returns c = part-fed c.args.part.now refl c.feed_word.ensures c.feed.ensures
