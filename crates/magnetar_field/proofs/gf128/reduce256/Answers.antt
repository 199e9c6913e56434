use Rattle.std.proofs.Common.{◌^◌, ◌<◌, refl, rules}
use Rattle.magnetar_field.specs.Gf128.{◌⊕◌}
use Rattle.magnetar_field.proofs.Reduction.{reduced-words}
use Rattle.magnetar_field.proofs.gf128.reduce256.Goals as goal

pub returns : goal.returns
unfolding ◌⊕◌
returns c =
    let t = c.args.t in
    let w0 : t.w0 < 2 ^ 64 = search rules in
    let w1 : t.w1 < 2 ^ 64 = search rules in
    let w2 : t.w2 < 2 ^ 64 = search rules in
    let w3 : t.w3 < 2 ^ 64 = search rules in
    rw (c.add-4.ensures, c.add-3.ensures, c.add-folded.ensures, c.add.ensures, c.add-2.ensures)
    (reduced-words t.w0 t.w1 t.w2 t.w3 w0 w1 w2 w3 _ _ _ c.shl.ensures c.shl-2.ensures c.shl-3.ensures _ refl)
