use native.Mathlib.Omega.{arith}
use Rattle.magnetar_matrix.specs.Numbers.{entries_by}
use Rattle.magnetar_relation.proofs.WalkLaws.{write-ends}
use Rattle.magnetar_relation.proofs.walks.write_products.Goals as goal

pub returns : goal.returns
returns g c =
    let x = c.args in
    write-ends x.q x.w x.n x.a x.b _ x.packed.now x.x.now (entries_by (g.E.Entries.numbers x.es.now)) _ _ _ _
    c.clear_blocks.ensures (omega arith) c.part-within.ensures.entries c.add_products.ensures
