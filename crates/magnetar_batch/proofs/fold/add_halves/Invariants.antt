use Rattle.std.specs.Prelude.{◌≡◌}
use Rattle.magnetar_field.specs.Gf128.{value}
use Rattle.magnetar_field.specs.Words.{elements}
use Rattle.magnetar_batch.proofs.Halves.{Held}
use Rattle.magnetar_batch.proofs.fold.add_halves.Given as goal

abbrev pub invariant-loop-u : goal.invariant-loop-u
invariant-loop-u l = (l.u ≡ l.q → value l.e ≡ 0) × Held l.w l.x (elements l.factors) (elements l.initial.out) l.u (value l.e) (elements l.out)
