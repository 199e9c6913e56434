use Prim.Native.Nat.{◌+◌, ◌-◌, ◌≤◌}
use Rattle.magnetar_relation.specs.Stray.{Flipped}
use Rattle.magnetar_relation.proofs.MaskLaws.{Left}
use Rattle.magnetar_relation.proofs.stray.flip_run.Given as goal

abbrev pub invariant-loop-y : goal.invariant-loop-y
invariant-loop-y l = record {
  inside : l.y ≤ l.o + l.n;
  left : Left l.y (l.o + l.n - l.y) l.t;
  done : Flipped l.o (l.y - l.o) l.initial.mask l.mask;
}

abbrev pub decreases-loop-y : goal.decreases-loop-y
decreases-loop-y l = l.o + l.n - l.y
