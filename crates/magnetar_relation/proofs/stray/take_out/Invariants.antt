use Rattle.magnetar_relation.proofs.MaskLaws.{Out}
use Rattle.magnetar_relation.proofs.stray.take_out.Given as goal

abbrev pub invariant-loop-i : goal.invariant-loop-i
invariant-loop-i l = Out l.w l.lens l.i l.mask
