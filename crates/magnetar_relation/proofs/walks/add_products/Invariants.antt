use mathlib.Core.Path.{◌≡◌}
use Prim.Native.Nat.{ℕ}
use lib.ListN.{drop}
use Rattle.magnetar_matrix.specs.Matrix.{share}
use Rattle.magnetar_matrix.specs.Numbers.{entries_by}
use Rattle.magnetar_relation.specs.Steps.{login_z}
use Rattle.magnetar_relation.specs.EntryWalks.{fold_entries}
use Rattle.magnetar_relation.specs.LoginSteps.{added_logins}
use Rattle.magnetar_relation.proofs.walks.add_products.Given as goal

abbrev pub invariant-loop-i : goal.invariant-loop-i
invariant-loop-i g l =
    let f = added_logins l.of.q l.of.w l.of.n (λ (u : ℕ). share (login_z l.of.w l.of.packed.now l.of.x.now u)) in
    let es = entries_by (g.E.Entries.numbers l.es) in
    fold_entries f (drop l.i es) l.out ≡ fold_entries f es l.initial.out
