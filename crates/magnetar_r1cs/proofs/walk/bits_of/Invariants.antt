use Rattle.magnetar_field.specs.Words.{elements}
use Rattle.magnetar_matrix.specs.Table.{bit_share}
use Rattle.magnetar_matrix.specs.Numbers.{entries_by}
use Rattle.magnetar_matrix.proofs.Walked.{Walked}
use Rattle.magnetar_r1cs.proofs.walk.bits_of.Given as goal

abbrev pub invariant-loop-i : goal.invariant-loop-i
invariant-loop-i g l = Walked (bit_share l.w l.login) (entries_by (g.E.Entries.numbers l.es)) (elements l.initial.out) (elements l.out) l.i
