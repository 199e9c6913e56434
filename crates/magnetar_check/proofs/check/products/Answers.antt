use Rattle.magnetar_field.specs.Words.{elements}
use Rattle.magnetar_matrix.specs.Numbers.{entries_by}
use Rattle.magnetar_matrix.specs.Packed.{z_of}
use Rattle.magnetar_check.proofs.RowWalk.{three-cut}
use Rattle.magnetar_check.proofs.check.products.Goals as goal

pub returns : goal.returns
returns g c =
    let x = c.args in
    let z = z_of x.of.w x.of.bits.now (elements x.of.x.now) in
    three-cut z x.t x.a (entries_by (g.E.Entries.numbers x.es.now)) _ _ c.part-first.ensures.end c.part-second.ensures.end _ _ _
    c.part-first.ensures.entries c.part-second.ensures.entries c.part-third.ensures.entries
    x.s.now _ _ _ c.product.ensures c.product-2.ensures (rw c.min.ensures at c.product-3.ensures)
