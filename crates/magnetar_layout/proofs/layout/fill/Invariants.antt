use mathlib.Core.Path.{◌≡◌}
use mathlib.Core.List.{◌++◌}
use Prim.Native.Nat.{◌≤◌}
use lib.ListN.{take, drop}
use Rattle.magnetar_layout.specs.Layout.{offsets}
use Rattle.magnetar_layout.proofs.Laid.{Laid}
use Rattle.magnetar_layout.proofs.layout.fill.Given as goal

abbrev pub invariant-loop-i : goal.invariant-loop-i
invariant-loop-i l = (l.c ≤ l.w) × Laid l.lens l.c l.i × (l.out ≡ take l.i (offsets l.lens) ++ drop l.i l.initial.out)
