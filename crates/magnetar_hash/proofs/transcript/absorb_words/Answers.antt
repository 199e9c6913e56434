use Rattle.magnetar_hash.specs.Bytes.{ascii, word_bytes}
use Rattle.magnetar_hash.specs.Transcript.{absorbed}
use Rattle.magnetar_hash.proofs.Parts.{four-parts}
use Rattle.magnetar_hash.proofs.transcript.absorb_words.Goals as goal

pub returns : goal.returns
unfolding absorbed ascii
returns c =
    let a = c.args in
    rw (
      c.undrawn.ensures,
      c.finish.ensures,
      four-parts a.t.state (ascii "absorb") a.label.now (word_bytes a.words.now) c.headed-sponge.ensures c.feed_words_part.ensures,
    )
