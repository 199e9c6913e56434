use native.Mathlib.Omega.{arith}
use lib.ListN.{drop_of_length-le}
use Rattle.magnetar_matrix.specs.Numbers.{entries_by}
use Rattle.magnetar_matrix.proofs.EntryLists.{next_entry}
use Rattle.magnetar_relation.specs.Steps.{column_added}
use Rattle.magnetar_relation.proofs.ToldLaws.{fold-more, fold-end}
use Rattle.magnetar_batch.proofs.combo.columns_of.Goals as goal

pub loop-i-preserved : goal.loop-i-preserved
loop-i-preserved g c =
    let x = c.args in
    let l = c.loop-i in
    let e = c.at.ensures in
    let next = next_entry (g.E.Entries.numbers x.es.now) l.i c.at.result (omega arith) e.row e.col e.lo e.hi in
    fold-more (column_added x.m x.n) _ _ l.s l.invariant _ _ _ next c.add_column.ensures

pub returns : goal.returns
returns g c =
    let x = c.args in
    let l = c.loop-i in
    fold-end (column_added x.m x.n) _ _ l.s l.invariant (drop_of_length-le (entries_by (g.E.Entries.numbers x.es.now)) {i = l.i} (omega arith))
