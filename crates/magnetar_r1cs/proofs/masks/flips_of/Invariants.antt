use Rattle.magnetar_matrix.specs.Numbers.{entries_by}
use Rattle.magnetar_r1cs.specs.Flips.{flip}
use Rattle.magnetar_matrix.proofs.Walked.{Walked}
use Rattle.magnetar_r1cs.proofs.masks.flips_of.Given as goal

abbrev pub invariant-loop-i : goal.invariant-loop-i
invariant-loop-i g l = Walked (flip l.w l.login l.t) (entries_by (g.E.Entries.numbers l.es)) l.initial.out l.out l.i
