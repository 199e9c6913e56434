use Rattle.magnetar_field.specs.Gf128.{value}
use Rattle.magnetar_field.specs.Words.{elements}
use Rattle.magnetar_verifier.proofs.EqNumbers.{Times}
use Rattle.magnetar_verifier.proofs.end.eq_number.Given as goal

abbrev pub invariant-loop-j : goal.invariant-loop-j
invariant-loop-j l = Times (elements l.point) l.k (value l.acc) l.rest l.j
