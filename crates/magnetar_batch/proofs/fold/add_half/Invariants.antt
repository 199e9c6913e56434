use Rattle.std.specs.Prelude.{◌≡◌}
use Rattle.magnetar_field.specs.Gf128.{value}
use Rattle.magnetar_field.specs.Words.{elements}
use Rattle.magnetar_matrix.specs.Table.{raised}
use Rattle.magnetar_batch.proofs.Halves.{first_columns}
use Rattle.magnetar_batch.proofs.fold.add_half.Given as goal

abbrev pub invariant-loop-j : goal.invariant-loop-j
invariant-loop-j l = elements l.s ≡ raised (first_columns (elements l.x) (value l.e) l.j) (elements l.initial.s)
