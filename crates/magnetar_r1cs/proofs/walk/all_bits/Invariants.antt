use Rattle.magnetar_matrix.specs.Matrix.{is_bit}
use Rattle.magnetar_matrix.specs.Numbers.{entries_by}
use Rattle.magnetar_layout.proofs.EveryLaws.{Left}
use Rattle.magnetar_r1cs.proofs.walk.all_bits.Given as goal

abbrev pub invariant-loop-i : goal.invariant-loop-i
invariant-loop-i g l = Left is_bit (entries_by (g.E.Entries.numbers l.es)) l.i
