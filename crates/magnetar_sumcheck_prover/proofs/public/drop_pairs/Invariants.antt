use Rattle.magnetar_field.specs.Words.{elements}
use Rattle.magnetar_field.proofs.Making.{Made}
use Rattle.magnetar_sumcheck_verifier.specs.Order.{slope}
use Rattle.magnetar_sumcheck_prover.proofs.public.drop_pairs.Given as goal

abbrev pub invariant-loop-i : goal.invariant-loop-i
invariant-loop-i l = Made (slope l.v (elements l.initial.t)) (elements l.initial.t) (elements l.t) l.i
