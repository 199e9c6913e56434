use mathlib.Core.Path.{◌≡◌}
use Prim.Native.Nat.{ℕ, ◌≤◌, ◌<◌, ◌*◌, ◌/◌, ◌^◌}
use lib.ListN.{length, get_or}
use Rattle.magnetar_field.specs.Words.{elements}
use Rattle.magnetar_multilinear.proofs.Evaluating.{Evaluating}
use Rattle.magnetar_multilinear.proofs.multilinear.bind_all.Given as goal

abbrev pub invariant-loop-j : goal.invariant-loop-j
invariant-loop-j l = record {
  small : l.half ≤ 2 ^ (length l.point / 2);
  room : length l.t ≡ 2 * 2 ^ (length l.point / 2);
  words : (i : ℕ) → get_or l.t i 0 < 2 ^ 64;
  same : Evaluating (elements l.point) (elements l.initial.t) (elements l.t) l.half l.j;
}
