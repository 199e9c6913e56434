use mathlib.Core.Path.{◌≡◌}
use Prim.Native.Nat.{◌*◌}
use lib.ListN.{take}
use Rattle.magnetar_matrix.specs.Sum.{blocks}
use Rattle.magnetar_matrix.specs.Numbers.{entries_by}
use Rattle.magnetar_r1cs.specs.Flips.{flip_block}
use Rattle.magnetar_r1cs.proofs.masks.mask_all.Given as goal

abbrev pub invariant-loop-low : goal.invariant-loop-low
invariant-loop-low g l =
    (take (l.low * l.m) l.out ≡ blocks (flip_block l.w l.packed (entries_by (g.E.Entries.numbers l.es)) l.d l.n l.m) l.low)
