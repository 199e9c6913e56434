use Rattle.std.proofs.Common.{◌≡◌, ◌≤◌, min, ◌++◌, length, take, drop}
use Rattle.magnetar_field.proofs.words.copy.Given as goal

abbrev pub invariant-loop-i : goal.invariant-loop-i
invariant-loop-i l =
    (l.i ≤ l.n) × (l.n ≡ min (length l.src) (length l.initial.dst)) × (length l.dst ≡ length l.initial.dst)
    × (l.dst ≡ take l.i l.src ++ drop l.i l.initial.dst)
