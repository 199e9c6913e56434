use Rattle.std.proofs.Common.{◌≡◌, length, drop}
use Rattle.magnetar_hash.specs.Parts.{framed, parts, total_length}
use Rattle.magnetar_hash.proofs.Left.{Left}
use Rattle.magnetar_hash.proofs.hasher.Sponge.feed_parts.Given as goal

abbrev pub invariant-loop-len : goal.invariant-loop-len
invariant-loop-len l =
    (total_length (drop l.len-index l.lens) ≡ length l.left)
    × Left l.initial.self.lanes l.initial.self.fill (framed (parts l.lens l.initial.left)) l.self.lanes l.self.fill
    (framed (parts (drop l.len-index l.lens) l.left))
