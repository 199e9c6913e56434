use mathlib.Core.Path.{◌≡◌}
use lib.ListN.{length}
use Rattle.magnetar_field.specs.Tabulate.{tabulate}
use Rattle.magnetar_matrix.specs.Numbers.{entries_by}
use Rattle.magnetar_r1cs.specs.Flips.{flip_total}
use Rattle.magnetar_r1cs.proofs.masks.mask_rows.Given as goal

abbrev pub invariant-loop-t : goal.invariant-loop-t
invariant-loop-t g l = l.out ≡ tabulate (flip_total l.w l.packed (entries_by (g.E.Entries.numbers l.es)) l.d l.low l.t) (length l.initial.out)
