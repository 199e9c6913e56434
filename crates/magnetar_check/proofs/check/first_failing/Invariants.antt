use mathlib.Core.Path.{◌≡◌}
use Prim.Native.Nat.{ℕ, ◌<◌}
use Rattle.magnetar_matrix.specs.Numbers.{entries_by}
use Rattle.magnetar_relation.specs.Rules.{system_at}
use Rattle.magnetar_check.specs.CheckSteps.{nothing, from, system_done}
use Rattle.magnetar_check.proofs.check.first_failing.Given as goal

abbrev pub invariant-loop-login : goal.invariant-loop-login
invariant-loop-login g l =
    let t = system_at l.t l.a (entries_by (g.E.Entries.numbers l.es)) in
    (k : ℕ) → 0 < k → from nothing l.s ≡ system_done k l.of.w l.of.packed.now l.of.x.now t l.login (from nothing l.initial.s)
