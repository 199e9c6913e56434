use mathlib.Core.Path.{◌≡◌}
use Rattle.magnetar_keccak.specs.Keccak.{rounds}
use Rattle.magnetar_keccak.proofs.keccak.permute.Given as goal

abbrev pub invariant-loop-i : goal.invariant-loop-i
invariant-loop-i l = l.b ≡ rounds l.i l.initial.b
