use Rattle.std.proofs.Common.{◌≡◌, [], ◌+◌, ◌*◌, ◌/◌, ◌<◌, ◌≤◌, length, get_or-drop, refl, ◌∙◌, arith}
use Rattle.magnetar_hash.proofs.Number.{word-number}
use Rattle.magnetar_hash.proofs.Left.{left_word, left-byte, left_end, left-last, chunk-at}
use Rattle.magnetar_hash.proofs.hasher.Sponge.feed.Goals as goal

pub loop-w-preserved : goal.loop-w-preserved
loop-w-preserved c =
    let b = c.args.b.now in
    let i = c.loop-w.w-index in
    let h : i < length b / 8 = omega (arith, c.as_chunks.ensures.front_len) in
    let k : 8 * i + 8 ≤ length b = omega arith in
    let n : 8 * (i + 1) ≡ 8 * i + 8 = omega arith in
    let f = rw (c.as_chunks.ensures.front, chunk-at b (length b / 8) i [] h) at c.from_le_bytes.ensures in
    rw n (left_word b (8 * i) (λ j. (c.type_inv.b j).fits) k (f ∙ word-number b (8 * i) k) c.loop-w.invariant c.feed_word.ensures)

pub loop-x-preserved : goal.loop-x-preserved
loop-x-preserved c =
    left-byte c.as_chunks.result.1.now c.loop-x.x-index (omega arith) refl
    (rw (c.as_chunks.ensures.back, get_or-drop) (c.type_inv.b _).fits) c.loop-x.invariant c.feed_lane.ensures

pub returns : goal.returns
returns c =
    let b = c.args.b.now in
    let r = c.as_chunks.result.1.now in
    let n : length b / 8 * 8 ≡ 8 * c.loop-w.w-index = omega (arith, c.as_chunks.ensures.front_len) in
    let e = rw n at c.as_chunks.ensures.back in
    left-last c.loop-w.invariant (rw e at (left_end r c.loop-x.x-index (omega arith) c.loop-x.invariant))
