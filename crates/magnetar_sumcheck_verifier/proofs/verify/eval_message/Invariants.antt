use Rattle.magnetar_field.specs.Gf128.{value}
use Rattle.magnetar_field.specs.Words.{elements}
use Rattle.magnetar_sumcheck_verifier.proofs.Horner.{Evaluated}
use Rattle.magnetar_sumcheck_verifier.proofs.verify.eval_message.Given as goal

abbrev pub invariant-loop-i : goal.invariant-loop-i
invariant-loop-i l = Evaluated (elements l.msg) (value l.r) l.i (value l.acc)
