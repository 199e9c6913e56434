use Rattle.magnetar_matrix.specs.Numbers.{entries_by}
use Rattle.magnetar_matrix.proofs.EntryLists.{exchanged-are}
use Rattle.magnetar_batch.proofs.ValueWalk.{matrix-ends}
use Rattle.magnetar_batch.proofs.eval.matrix_value.Goals as goal

pub returns : goal.returns
returns g c =
    let x = c.args in
    let es = g.E.Entries.numbers x.es.now in
    matrix-ends x.k x.m x.n x.p (entries_by es) x.s.now _ _ _ _ c.clear_front.ensures
    (rw (exchanged-are es) at c.add_columns.ensures) c.front_value.ensures
