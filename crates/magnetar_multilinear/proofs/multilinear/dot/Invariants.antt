use mathlib.Core.Path.{◌≡◌}
use lib.ListN.{drop}
use Rattle.magnetar_field.specs.Gf128.{value}
use Rattle.magnetar_field.specs.Words.{elements}
use Rattle.magnetar_multilinear.specs.Multilinear.{dot}
use Rattle.magnetar_multilinear.proofs.multilinear.dot.Given as goal

abbrev pub invariant-loop-j : goal.invariant-loop-j
invariant-loop-j l = value l.acc ≡ dot (drop l.j (elements l.xs)) (drop l.j (elements l.ys))
