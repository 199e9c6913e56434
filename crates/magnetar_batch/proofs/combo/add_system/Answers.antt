use Rattle.magnetar_matrix.specs.Numbers.{entries_by}
use Rattle.magnetar_batch.proofs.TableWalk.{system-added}
use Rattle.magnetar_batch.proofs.combo.add_system.Goals as goal

pub returns : goal.returns
returns g c =
    let x = c.args in
    let a = c.part-a.ensures in
    let b = c.part-b.ensures in
    let d = c.part-c.ensures in
    system-added x.m x.al x.k x.p x.t x.a (entries_by (g.E.Entries.numbers x.es.now)) _ _ a.end b.end x.s.now _ _ _
    (rw a.entries at c.add_matrix.ensures) (rw b.entries at c.add_matrix-2.ensures) (rw d.entries at c.add_matrix-3.ensures)
