use Prim.Native.Nat.{◌≤◌}
use Rattle.magnetar_layout.proofs.Laid.{Laid}
use Rattle.magnetar_layout.proofs.layout.ends_past.Given as goal

abbrev pub invariant-loop-n : goal.invariant-loop-n
invariant-loop-n l = (l.c ≤ l.w) × Laid l.lens l.c l.n-index
