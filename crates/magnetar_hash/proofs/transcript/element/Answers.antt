use Rattle.std.proofs.Common.{◌≡◌, ◌/◌, [], length, rules, arith}
use Rattle.magnetar_hash.specs.Transcript.{element}
use Rattle.magnetar_hash.proofs.Number.{word-number}
use Rattle.magnetar_hash.proofs.Left.{chunk-at}
use Rattle.magnetar_hash.proofs.transcript.element.Goals as goal

pub returns : goal.returns
unfolding element
returns c =
    let s = c.args.t.state in
    let n : length s ≡ 32 = search rules in
    let f = rw (c.as_chunks.ensures.front, chunk-at s (length s / 8) 0 [] (omega (arith, n))) at c.from_le_bytes.ensures in
    let g = rw (c.as_chunks.ensures.front, chunk-at s (length s / 8) 1 [] (omega (arith, n))) at c.from_le_bytes-2.ensures in
    rw (f, g, word-number s 0 (omega (arith, n)), word-number s 8 (omega (arith, n)))
