use Rattle.std.proofs.Common.{[], ◌∷◌}
use Rattle.magnetar_hash.proofs.Stream.{fed-join}
use Rattle.magnetar_hash.proofs.Parts.{parts_join}
use Rattle.magnetar_hash.proofs.transcript.headed.Goals as goal

pub returns : goal.returns
returns c =
    let a = c.args in
    let s = a.t.state in
    let t = a.tag.now in
    let l = a.label.now in
    fed-join (rw c.empty-sponge.ensures at c.feed_word.ensures)
    (parts_join (s ∷ []) (t ∷ l ∷ []) c.feed_part.ensures (parts_join (t ∷ []) (l ∷ []) c.feed_part-2.ensures c.feed_part-3.ensures))
