use Rattle.std.specs.Prelude.{◌≡◌, ◌*◌, ◌≤◌}
use Rattle.magnetar_field.specs.Gf128.{value}
use Rattle.magnetar_field.specs.Words.{elements}
use Rattle.magnetar_matrix.specs.Table.{raised}
use Rattle.magnetar_batch.proofs.Selected.{up_to}
use Rattle.magnetar_batch.proofs.fold.add_login.Given as goal

-- the columns below 64 k have been added
abbrev pub invariant-loop-k : goal.invariant-loop-k
invariant-loop-k l = (64 * l.k ≤ 65536) × (elements l.out ≡ raised (up_to l.login l.w (value l.e) (64 * l.k)) (elements l.initial.out))
