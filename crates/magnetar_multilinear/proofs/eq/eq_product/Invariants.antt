use mathlib.Core.Path.{◌≡◌}
use lib.ListN.{drop}
use Rattle.magnetar_field.specs.Gf128.{value}
use Rattle.magnetar_field.specs.Words.{elements}
use Rattle.magnetar_multilinear.specs.EqTable.{eq_at_bits}
use Rattle.magnetar_multilinear.proofs.eq.eq_product.Given as goal

abbrev pub invariant-loop-j : goal.invariant-loop-j
invariant-loop-j l = value l.acc ≡ eq_at_bits (drop l.j (elements l.point)) (drop l.j l.bits)
