use Rattle.magnetar_keccak.specs.State.{◌⊕◌}
use Rattle.magnetar_hash.proofs.Lane.{lane-part, lane-full}
use Rattle.magnetar_hash.proofs.hasher.Sponge.feed_lane.Goals as goal

pub returns-then-self-ge136 : goal.returns-then-self-ge136
unfolding ◌⊕◌
returns-then-self-ge136 c =
    let s = c.args.self.now in
    lane-full s.lanes s.fill c.args.n c.args.w c.requires c.if-self-ge136.true c.permute-lanes.ensures

pub returns-else-self-ge136 : goal.returns-else-self-ge136
unfolding ◌⊕◌
returns-else-self-ge136 c =
    let s = c.args.self.now in
    lane-part s.lanes s.fill c.args.n c.args.w c.requires c.if-self-ge136.false
