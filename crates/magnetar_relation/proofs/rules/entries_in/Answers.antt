use mathlib.Core.Path.{refl}
use native.Mathlib.Omega.{arith}
use Rattle.magnetar_relation.proofs.rules.entries_in.Goals as goal

pub overflow_add-result : goal.overflow_add-result
overflow_add-result c = let k = c.requires in omega (arith, k.0, k.1)

pub overflow_add-result-2 : goal.overflow_add-result-2
overflow_add-result-2 c = let k = c.requires in omega (arith, k.0, k.1, k.2)

pub returns : goal.returns
returns c = let k = c.requires in (refl, omega (arith, k.0, k.1, k.2))
