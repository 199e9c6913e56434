use mathlib.Core.Path.{◌≡◌}
use lib.ListN.{drop}
use Rattle.magnetar_matrix.specs.Numbers.{entries_by}
use Rattle.magnetar_relation.specs.EntryWalks.{lies_at, every_from}
use Rattle.magnetar_relation.proofs.rules.inside_of.Given as goal

abbrev pub invariant-loop-i : goal.invariant-loop-i
invariant-loop-i g l =
    every_from (lies_at l.s) l.i (drop l.i (entries_by (g.E.Entries.numbers l.es))) ≡ every_from (lies_at l.s) 0 (entries_by (g.E.Entries.numbers l.es))
