use Rattle.magnetar_field.specs.Gf128.{value}
use Rattle.magnetar_field.specs.Words.{elements}
use Rattle.magnetar_verifier.proofs.EqNumbers.{Segments}
use Rattle.magnetar_verifier.proofs.end.segment_sum.Given as goal

abbrev pub invariant-loop-i : goal.invariant-loop-i
invariant-loop-i l = Segments l.lens (elements l.low) (elements l.values) (value l.acc) l.c l.i
