use Rattle.std.proofs.Common.{sym}
use Rattle.magnetar_hash.specs.Bytes.{word_bytes}
use Rattle.magnetar_hash.proofs.Parts.{part-fed}
use Rattle.magnetar_hash.proofs.Bytes.{length-words}
use Rattle.magnetar_hash.proofs.hasher.Sponge.feed_words_part.Goals as goal

pub returns : goal.returns
returns c = part-fed (word_bytes c.args.words.now) (sym (length-words c.args.words.now)) c.feed_word.ensures c.feed_words.ensures
