use Prim.Native.Nat.{◌*◌}
use Rattle.magnetar_matrix.proofs.FirstRow.{Below}
use Rattle.magnetar_relation.specs.Stray.{apart}
use Rattle.magnetar_relation.proofs.stray.first_column.Given as goal

abbrev pub invariant-loop-k : goal.invariant-loop-k
invariant-loop-k l = Below (apart l.mask l.words) (64 * l.k)
