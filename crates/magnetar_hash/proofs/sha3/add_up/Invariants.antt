use Rattle.magnetar_hash.proofs.Lengths.{Used}
use Rattle.magnetar_hash.proofs.sha3.add_up.Given as goal

abbrev pub invariant-loop-n : goal.invariant-loop-n
invariant-loop-n l = Used l.lens l.size l.left l.n-index
