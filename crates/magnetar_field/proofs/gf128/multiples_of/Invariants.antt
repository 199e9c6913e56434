use Rattle.std.proofs.Common.{◌*◌}
use Rattle.magnetar_field.specs.Gf128.{value}
use Rattle.magnetar_field.specs.Residue.{Multiples}
use Rattle.magnetar_field.proofs.gf128.multiples_of.Given as goal

abbrev pub invariant-loop-k : goal.invariant-loop-k
invariant-loop-k l = Multiples (value l.a) l.lo l.hi (2 * l.k)
