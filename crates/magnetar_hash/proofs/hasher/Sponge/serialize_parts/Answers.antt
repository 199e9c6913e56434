use Rattle.std.proofs.Common.{sym}
use Rattle.magnetar_hash.specs.Parts.{parts}
use Rattle.magnetar_hash.proofs.Parts.{serialized, length-parts}
use Rattle.magnetar_hash.proofs.hasher.Sponge.serialize_parts.Goals as goal

pub returns : goal.returns
returns c =
    let a = c.args in
    let p = parts a.lens.now a.bytes.now in
    serialized p (sym (length-parts a.lens.now a.bytes.now)) c.feed_word.ensures c.feed_parts.ensures
