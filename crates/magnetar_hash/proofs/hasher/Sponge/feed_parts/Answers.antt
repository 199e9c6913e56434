use Rattle.std.proofs.Common.{arith}
use Rattle.magnetar_hash.proofs.Left.{left-all}
use Rattle.magnetar_hash.proofs.Lengths.{sum-next}
use Rattle.magnetar_hash.proofs.Parts.{left-part, left-parts-end}
use Rattle.magnetar_hash.proofs.hasher.Sponge.feed_parts.Goals as goal

pub loop-len-init : goal.loop-len-init
loop-len-init c = (c.requires.1, left-all _ c.requires.0)

pub split_at-requires : goal.split_at-requires
split_at-requires c = omega (arith, sum-next c.args.lens.now c.loop-len.len-index (omega arith))

pub loop-len-preserved : goal.loop-len-preserved
loop-len-preserved c =
    let l = c.loop-len in
    let p = c.split_at.ensures in (
      omega (arith, sum-next c.args.lens.now l.len-index (omega arith), p.back_len),
      left-part c.args.lens.now l.left.now _ _ l.len-index (omega arith) p.front p.back l.invariant.1 c.feed_part.ensures,
    )

pub returns : goal.returns
returns c = left-parts-end c.args.lens.now c.loop-len.left.now _ (omega arith) c.loop-len.invariant.1
