use native.Mathlib.Omega.{arith}
use lib.ListN.{drop_of_length-le}
use Rattle.magnetar_matrix.specs.Numbers.{entries_by}
use Rattle.magnetar_matrix.proofs.EntryLists.{next_entry}
use Rattle.magnetar_relation.proofs.ToldLaws.{fold-more, fold-end}
use Rattle.magnetar_relation.proofs.walks.add_products.Goals as goal

pub loop-i-preserved : goal.loop-i-preserved
loop-i-preserved g c =
    let e = c.at.ensures in
    let next = next_entry (g.E.Entries.numbers c.args.es.now) c.loop-i.i c.at.result (omega arith) e.row e.col e.lo e.hi in
    fold-more _ _ _ c.loop-i.out c.loop-i.invariant _ _ _ next c.add_shares.ensures

pub returns : goal.returns
returns g c =
    fold-end _ _ _ _ c.loop-i.invariant (drop_of_length-le (entries_by (g.E.Entries.numbers c.args.es.now)) {i = c.loop-i.i} (omega arith))
