use Rattle.std.proofs.Common.{arith}
use Rattle.magnetar_hash.proofs.Left.{left-words, left-words-end}
use Rattle.magnetar_hash.proofs.hasher.Sponge.feed_words.Goals as goal

pub loop-w-preserved : goal.loop-w-preserved
loop-w-preserved c = left-words c.args.words.now _ (omega arith) c.loop-w.invariant c.feed_word.ensures

pub returns : goal.returns
returns c = left-words-end c.args.words.now _ (omega arith) c.loop-w.invariant
