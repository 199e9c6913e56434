use Rattle.std.proofs.Common.{arith, drop_of_length-le}
use Rattle.magnetar_matrix.specs.Numbers.{entries_by}
use Rattle.magnetar_matrix.proofs.EntryLists.{next_entry}
use Rattle.magnetar_digest.specs.Digest.{entry_numbers}
use Rattle.magnetar_digest.proofs.FedLaws.{each_more, each-end}
use Rattle.magnetar_digest.proofs.digest.feed_entries.Goals as goal

pub loop-i-preserved : goal.loop-i-preserved
loop-i-preserved g c =
    let l = c.loop-i in
    let e = c.at.ensures in
    let next = next_entry (g.E.Entries.numbers c.args.es.now) l.i c.at.result (omega arith) e.row e.col e.lo e.hi in
    each_more entry_numbers _ _ _ _ l.acc _ next c.feed_entry-acc.ensures l.invariant

pub returns : goal.returns
returns g c =
    let l = c.loop-i in
    each-end entry_numbers _ _ l.acc (drop_of_length-le (entries_by (g.E.Entries.numbers c.args.es.now)) {i = l.i} (omega arith)) l.invariant
