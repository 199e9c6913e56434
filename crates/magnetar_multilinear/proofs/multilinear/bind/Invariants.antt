use mathlib.Core.Path.{◌≡◌}
use Prim.Native.Nat.{◌^◌}
use lib.ListN.{length}
use Rattle.magnetar_field.specs.Gf128.{value}
use Rattle.magnetar_field.specs.Words.{elements}
use Rattle.magnetar_field.proofs.Making.{Made}
use Rattle.magnetar_multilinear.proofs.Bound.{bound_at}
use Rattle.magnetar_multilinear.proofs.multilinear.bind.Given as goal

abbrev pub invariant-loop-i : goal.invariant-loop-i
invariant-loop-i l = record {
  block : l.block ≡ 2 ^ l.v;
  room : length l.t ≡ length l.initial.t;
  made : Made (bound_at l.v (value l.r) (elements l.initial.t)) (elements l.initial.t) (elements l.t) l.i;
}
