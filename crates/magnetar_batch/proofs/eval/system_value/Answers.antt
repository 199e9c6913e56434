use Rattle.magnetar_matrix.specs.Numbers.{entries_by}
use Rattle.magnetar_batch.proofs.ValueWalk.{system-ends}
use Rattle.magnetar_batch.proofs.eval.system_value.Goals as goal

pub returns : goal.returns
returns g c =
    let x = c.args in
    let a = c.part-a.ensures in
    let b = c.part-b.ensures in
    let d = c.part-c.ensures in
    system-ends x.k x.m x.al x.j x.p x.t x.a (entries_by (g.E.Entries.numbers x.es.now)) _ _ a.end b.end x.s.now _ _ _ _ _ _ _
    (rw a.entries at c.matrix_value-x.ensures) (rw b.entries at c.matrix_value-y.ensures) (rw d.entries at c.matrix_value-z.ensures) c.weigh.ensures
