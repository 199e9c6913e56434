use mathlib.Core.Path.{sym, ◌∙◌}
use native.Mathlib.Omega.{arith}
use lib.ListN.{drop_of_length-le}
use Rattle.magnetar_matrix.specs.Numbers.{entries_by}
use Rattle.magnetar_matrix.proofs.EntryLists.{next_entry}
use Rattle.magnetar_relation.specs.EntryWalks.{lies_at}
use Rattle.magnetar_relation.proofs.ToldLaws.{told-more, told-stop, told-end}
use Rattle.magnetar_relation.proofs.rules.inside_of.Goals as goal

pub returns-then-not-lies_at : goal.returns-then-not-lies_at
returns-then-not-lies_at g c =
    let e = c.at.ensures in
    let next = next_entry (g.E.Entries.numbers c.args.es.now) c.loop-i.i c.at.result (omega arith) e.row e.col e.lo e.hi in
    told-stop (lies_at c.args.s) c.loop-i.i _ _ c.loop-i.invariant _ _ next (sym c.lies_at.ensures ∙ c.if-not-lies_at.true)

pub loop-i-preserved : goal.loop-i-preserved
loop-i-preserved g c =
    let e = c.at.ensures in
    let next = next_entry (g.E.Entries.numbers c.args.es.now) c.loop-i.i c.at.result (omega arith) e.row e.col e.lo e.hi in
    told-more (lies_at c.args.s) c.loop-i.i _ _ c.loop-i.invariant _ _ next (sym c.lies_at.ensures ∙ c.if-not-lies_at.false)

pub returns : goal.returns
returns g c =
    told-end (lies_at c.args.s) c.loop-i.i _ _ c.loop-i.invariant
    (drop_of_length-le (entries_by (g.E.Entries.numbers c.args.es.now)) {i = c.loop-i.i} (omega arith))
