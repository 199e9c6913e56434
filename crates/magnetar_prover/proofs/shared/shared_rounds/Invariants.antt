use Prim.Native.Nat.{◌*◌, ◌+◌, ◌-◌, ◌≤◌}
use Rattle.magnetar_field.specs.Gf128.{value}
use Rattle.magnetar_prover.proofs.SharedSteps.{Sharing}
use Rattle.magnetar_prover.specs.Shared.{shared_in}
use Rattle.magnetar_prover.proofs.shared.shared_rounds.Given as goal

abbrev pub invariant-loop-i : goal.invariant-loop-i
invariant-loop-i l =
    (l.m ≤ l.wb) × (l.n ≤ l.wf)
    × Sharing l.x l.b l.f (shared_in l.at.p l.at.d l.x l.b l.f l.at.o l.at.q (value l.initial.y) (value l.initial.z) l.wb l.wf l.initial.m l.initial.n
    l.initial.u l.initial.proof l.initial.draws l.initial.s) l.i l.m l.n (shared_in (l.at.p + 8
    * l.i) (l.at.d + l.i) (l.x - l.i) l.b l.f l.at.o l.at.q (value l.y) (value l.z) l.wb l.wf l.m l.n l.u l.proof l.draws l.s)
