use mathlib.Core.Path.{◌≡◌}
use Prim.Native.Nat.{◌+◌, ◌-◌, ◌≤◌}
use lib.ListN.{length, get_or}
use Rattle.magnetar_field.specs.Words.{elements}
use Rattle.magnetar_field.proofs.Making.{Made}
use Rattle.magnetar_spartan.proofs.proving.login_point.Given as goal

abbrev pub invariant-loop-i : goal.invariant-loop-i
invariant-loop-i l = (l.i ≤ l.n) × (length l.out ≡ length l.initial.out) × Made (λ j. get_or (elements l.draws) (l.k + (l.n - 1 - j)) 0)
    (elements l.initial.out) (elements l.out) l.i

abbrev pub decreases-loop-i : goal.decreases-loop-i
decreases-loop-i l = l.n - l.i
