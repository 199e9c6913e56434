use Prim.Native.Nat.{◌*◌, ◌+◌, ◌≤◌}
use Rattle.magnetar_field.specs.Gf128.{value}
use Rattle.magnetar_prover.proofs.RowSteps.{Rowing}
use Rattle.magnetar_prover.specs.InScratch.{row_in}
use Rattle.magnetar_prover.specs.Labels.{row_label}
use Rattle.magnetar_prover.proofs.outer.rows.Given as goal

abbrev pub invariant-loop-i : goal.invariant-loop-i
invariant-loop-i l = (l.n ≤ l.w) × Rowing (row_label l.of) l.x (row_in l.p l.d l.o (value l.initial.k) l.w l.initial.n l.initial.u l.initial.proof
    l.initial.draws l.initial.s) l.i l.n (row_in (l.p + 4 * l.i) (l.d
    + l.i) (l.o + l.i) (value l.k) l.w l.n l.u l.proof l.draws l.s)
