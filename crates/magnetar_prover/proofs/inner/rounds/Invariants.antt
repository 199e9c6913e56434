use Prim.Native.Nat.{◌*◌, ◌≤◌}
use Rattle.magnetar_prover.proofs.InnerSteps.{Inners}
use Rattle.magnetar_prover.specs.InScratch.{inner_in}
use Rattle.magnetar_prover.proofs.inner.rounds.Given as goal

abbrev pub invariant-loop-i : goal.invariant-loop-i
invariant-loop-i l = (l.n ≤ 2 * l.m) × Inners l.k (inner_in l.m (2 * l.m) 0 0 l.initial.u l.initial.proof l.initial.draws l.initial.s) l.i l.n
    (inner_in l.m l.n (3 * l.i) l.i l.u l.proof l.draws l.s)
