use Rattle.std.proofs.Common.{◌*◌, drop}
use Rattle.magnetar_hash.proofs.Left.{Left}
use Rattle.magnetar_hash.proofs.hasher.Sponge.feed.Given as goal

abbrev pub invariant-loop-w : goal.invariant-loop-w
invariant-loop-w l = Left l.initial.self.lanes l.initial.self.fill l.b l.self.lanes l.self.fill (drop (8 * l.w-index) l.b)

abbrev pub invariant-loop-x : goal.invariant-loop-x
invariant-loop-x l = Left l.initial.self.lanes l.initial.self.fill l.rest l.self.lanes l.self.fill (drop l.x-index l.rest)
