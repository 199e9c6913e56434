use mathlib.Core.Path.{◌≡◌}
use Prim.Native.Nat.{ℕ, ◌*◌}
use Rattle.magnetar_matrix.specs.Matrix.{share}
use Rattle.magnetar_matrix.specs.Numbers.{entry_of}
use Rattle.magnetar_relation.specs.Steps.{login_z}
use Rattle.magnetar_relation.specs.LoginSteps.{added_blocks}
use Rattle.magnetar_relation.proofs.walks.add_shares.Given as goal

abbrev pub invariant-loop-u : goal.invariant-loop-u
invariant-loop-u l =
    let f = λ (v : ℕ). share (login_z l.of.w l.of.packed.now l.of.x.now v) in
    l.out ≡ added_blocks (l.of.q * l.of.n) l.of.n f (entry_of l.e) l.u l.initial.out
