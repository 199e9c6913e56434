use Rattle.std.proofs.Common.{◌∙◌}
use Rattle.magnetar_hash.proofs.Stream.{sha3-of}
use Rattle.magnetar_hash.proofs.sha3.sha3_256.Goals as goal

pub returns : goal.returns
returns c =
    let f = rw c.empty-sponge.ensures at c.feed.ensures in
    c.finish.ensures ∙ sha3-of f
