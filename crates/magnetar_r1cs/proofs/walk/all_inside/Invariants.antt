use Rattle.magnetar_r1cs.specs.Inside.{inside}
use Rattle.magnetar_matrix.specs.Numbers.{entries_by}
use Rattle.magnetar_layout.proofs.EveryLaws.{Left}
use Rattle.magnetar_r1cs.proofs.walk.all_inside.Given as goal

abbrev pub invariant-loop-i : goal.invariant-loop-i
invariant-loop-i g l = Left (inside l.n l.m) (entries_by (g.E.Entries.numbers l.es)) l.i
