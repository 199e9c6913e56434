use native.Mathlib.Omega.{arith}
use mathlib.Core.Path.{◌∙◌}
use Rattle.magnetar_matrix.specs.Numbers.{entries_by}
use Rattle.magnetar_matrix.proofs.EntryLists.{part-are}
use Rattle.magnetar_relation.proofs.RangeLaws.{range-is}
use Rattle.magnetar_relation.proofs.range.part.Goals as goal

pub returns-clause-entries : goal.returns-clause-entries
returns-clause-entries g c =
    let N = g.E.Entries.numbers c.args.es.now in
    part-are c.args.a c.after.result N ∙ range-is (entries_by N) c.args.a c.args.k c.after.result (omega arith)
