use mathlib.Core.Path.{◌≡◌}
use Prim.Native.Nat.{◌*◌, ◌/◌, ◌^◌}
use lib.ListN.{length, get_or}
use Rattle.magnetar_field.specs.Words.{elements}
use Rattle.magnetar_multilinear.proofs.Filling.{Filled}
use Rattle.magnetar_multilinear.proofs.eq.fill.Given as goal

abbrev pub invariant-loop-j : goal.invariant-loop-j
invariant-loop-j l = record {
  room : length l.out ≡ 2 * 2 ^ (length l.point / 2);
  filled : Filled (get_or (elements l.initial.out) 0 0) (length l.point / 2) (elements l.point) (elements l.out) l.m l.j;
}
