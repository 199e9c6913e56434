use Rattle.magnetar_hash.proofs.Draws.{Draws}
use Rattle.magnetar_hash.proofs.transcript.draw_vec.Given as goal

abbrev pub invariant-loop-i : goal.invariant-loop-i
invariant-loop-i l = Draws l.initial.u l.label l.initial.out l.out l.u l.i
