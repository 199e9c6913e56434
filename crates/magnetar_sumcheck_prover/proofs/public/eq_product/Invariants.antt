use Rattle.magnetar_field.specs.Gf128.{value}
use Rattle.magnetar_field.specs.Words.{elements}
use Rattle.magnetar_sumcheck_verifier.specs.Order.{point}
use Rattle.magnetar_sumcheck_prover.proofs.EqFactor.{Multiplied}
use Rattle.magnetar_sumcheck_prover.proofs.public.eq_product.Given as goal

abbrev pub invariant-loop-j : goal.invariant-loop-j
invariant-loop-j l = Multiplied (elements l.tau) (point l.high (elements l.challenges)) l.j (value l.acc)
