use Rattle.magnetar_hash.proofs.Pad.{pad-one, pad-two}
use Rattle.std.proofs.Common.{rules}
use Rattle.magnetar_hash.proofs.hasher.Sponge.pad.Goals as goal

pub returns-then-self-eq135 : goal.returns-then-self-eq135
returns-then-self-eq135 c = pad-one c.if-self-eq135.true (rw c.if-self-eq135.true at c.feed_lane.ensures)

pub returns-else-self-eq135 : goal.returns-else-self-eq135
returns-else-self-eq135 c = pad-two (search rules) c.feed_lane-else-self-eq135.ensures c.feed_lane-else-self-eq135-2.ensures
