use Rattle.magnetar_field.specs.Gf128.{value}
use Rattle.magnetar_field.specs.Words.{elements}
use Rattle.magnetar_matrix.specs.Table.{cross}
use Rattle.magnetar_matrix.specs.Numbers.{entries_by}
use Rattle.magnetar_matrix.proofs.Walked.{Summed}
use Rattle.magnetar_r1cs.proofs.walk.sum_products.Given as goal

abbrev pub invariant-loop-i : goal.invariant-loop-i
invariant-loop-i g l = Summed (cross (elements l.factors) l.n) (entries_by (g.E.Entries.numbers l.es)) (value l.sum) l.i
