use Rattle.std.proofs.Common.{drop}
use Rattle.magnetar_hash.specs.Bytes.{word_bytes}
use Rattle.magnetar_hash.proofs.Left.{Left}
use Rattle.magnetar_hash.proofs.hasher.Sponge.feed_words.Given as goal

abbrev pub invariant-loop-w : goal.invariant-loop-w
invariant-loop-w l =
    Left l.initial.self.lanes l.initial.self.fill (word_bytes l.words) l.self.lanes l.self.fill (word_bytes (drop l.w-index l.words))
