use Prim.Native.Nat.{◌+◌, ◌*◌}
use Rattle.magnetar_keccak.specs.Keccak.{theta, rho, pi, chi}
use Rattle.magnetar_keccak.proofs.Written.{Written}
use Rattle.magnetar_keccak.proofs.keccak.round.Given as goal

abbrev pub invariant-loop-y : goal.invariant-loop-y
invariant-loop-y l = Written (chi (pi (rho (theta l.a)))) l.b (5 * l.y)

abbrev pub invariant-loop-x : goal.invariant-loop-x
invariant-loop-x l = Written (chi (pi (rho (theta l.a)))) l.b (5 * l.y + l.x)
