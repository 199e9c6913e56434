use Rattle.magnetar_matrix.specs.Matrix.{bit_up_to}
use Rattle.magnetar_matrix.specs.Numbers.{entries_by}
use Rattle.magnetar_layout.proofs.EveryLaws.{Left}
use Rattle.magnetar_r1cs.proofs.walk.all_bits_up_to.Given as goal

abbrev pub invariant-loop-i : goal.invariant-loop-i
invariant-loop-i g l = Left (bit_up_to l.w) (entries_by (g.E.Entries.numbers l.es)) l.i
