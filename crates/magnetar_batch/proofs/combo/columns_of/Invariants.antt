use Rattle.std.specs.Prelude.{◌≡◌, drop}
use Rattle.magnetar_matrix.specs.Numbers.{entries_by}
use Rattle.magnetar_relation.specs.Steps.{column_added}
use Rattle.magnetar_relation.specs.EntryWalks.{fold_entries}
use Rattle.magnetar_batch.proofs.combo.columns_of.Given as goal

-- what is left of the entries, from what the words are, is all of them from what they were
abbrev pub invariant-loop-i : goal.invariant-loop-i
invariant-loop-i g l =
    let es = entries_by (g.E.Entries.numbers l.es) in
    fold_entries (column_added l.m l.n) (drop l.i es) l.s ≡ fold_entries (column_added l.m l.n) es l.initial.s
