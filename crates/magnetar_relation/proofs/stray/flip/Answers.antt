use Rattle.magnetar_relation.proofs.MaskLaws.{flip-done}
use Rattle.magnetar_relation.proofs.stray.flip.Goals as goal

pub returns : goal.returns
returns c =
    let s = c in
    let x = s.args in
    let f = flip-done x.y x.t x.mask.now _ _ s.requires.0 s.requires.1 c.ones.ensures c.shifted.ensures in
    rw c.add_word.ensures f
