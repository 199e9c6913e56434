use Rattle.magnetar_hash.specs.Bytes.{ascii, le_bytes}
use Rattle.magnetar_hash.specs.Transcript.{drawn}
use Rattle.magnetar_hash.proofs.Bytes.{le-eight}
use Rattle.magnetar_hash.proofs.Parts.{four-parts}
use Rattle.magnetar_hash.proofs.transcript.draw.Goals as goal

pub returns : goal.returns
unfolding drawn ascii
returns c =
    let a = c.args in
    let f = rw (c.to_le_bytes.ensures, le-eight) at c.feed_part.ensures in
    rw (
      c.finish.ensures,
      four-parts a.t.state (ascii "squeeze") a.label.now (le_bytes 8 a.t.squeeze_ctr) c.headed-sponge.ensures f,
    )
