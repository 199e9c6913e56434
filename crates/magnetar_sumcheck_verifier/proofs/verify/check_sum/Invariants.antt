use Rattle.magnetar_field.specs.Gf128.{value}
use Rattle.magnetar_field.specs.Words.{elements}
use Rattle.magnetar_sumcheck_verifier.proofs.Horner.{Summed}
use Rattle.magnetar_sumcheck_verifier.proofs.verify.check_sum.Given as goal

abbrev pub invariant-loop-i : goal.invariant-loop-i
invariant-loop-i l = Summed (elements l.msg) l.i (value l.acc)
