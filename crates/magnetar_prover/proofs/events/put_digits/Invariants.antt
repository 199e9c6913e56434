use Rattle.magnetar_prover.proofs.Spelling.{Spelt}
use Rattle.magnetar_prover.proofs.events.put_digits.Given as goal

abbrev pub invariant-loop-rest : goal.invariant-loop-rest
invariant-loop-rest l = Spelt l.n l.out l.rest l.at

abbrev pub decreases-loop-rest : goal.decreases-loop-rest
decreases-loop-rest l = l.rest
