use Prim.Native.Nat.{◌-◌}
use lib.ListN.{get_or}
use Rattle.magnetar_field.specs.Words.{elements}
use Rattle.magnetar_field.proofs.Making.{Made}
use Rattle.magnetar_verifier.proofs.claims.reversed.Given as goal

abbrev pub invariant-loop-i : goal.invariant-loop-i
invariant-loop-i l = Made (λ i. get_or (elements l.s) (l.n - 1 - i) 0) (elements l.initial.out) (elements l.out) l.i
