use mathlib.Core.Path.{◌≡◌}
use lib.ListN.{drop}
use Rattle.magnetar_field.specs.Words.{elements}
use Rattle.magnetar_matrix.specs.Numbers.{entries_by}
use Rattle.magnetar_matrix.specs.Packed.{z_of}
use Rattle.magnetar_relation.specs.EntryWalks.{fold_entries}
use Rattle.magnetar_check.specs.CheckSteps.{share_added}
use Rattle.magnetar_check.proofs.check.product_of.Given as goal

abbrev pub invariant-loop-i : goal.invariant-loop-i
invariant-loop-i g l =
    let f = share_added l.m l.n (z_of l.of.w l.of.bits.now (elements l.of.x.now)) in
    let es = entries_by (g.E.Entries.numbers l.es) in
    fold_entries f (drop l.i es) l.s ≡ fold_entries f es l.initial.s
