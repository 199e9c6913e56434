use mathlib.Core.Path.{◌≡◌}
use lib.ListN.{length}
use Rattle.magnetar_field.specs.Gf128.{value}
use Rattle.magnetar_field.specs.Words.{elements}
use Rattle.magnetar_multilinear.proofs.Doublings.{Split}
use Rattle.magnetar_multilinear.proofs.eq.expand.Given as goal

abbrev pub invariant-loop-i : goal.invariant-loop-i
invariant-loop-i l = (length l.out ≡ length l.initial.out) × Split l.m (value l.r) (elements l.initial.out) (elements l.out) l.i
