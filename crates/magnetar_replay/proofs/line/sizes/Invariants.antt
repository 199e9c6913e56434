use Rattle.std.proofs.Common.{◌≡◌, take}
use Rattle.magnetar_replay.proofs.line.sizes.Given as goal

abbrev pub invariant-loop-n : goal.invariant-loop-n
invariant-loop-n l = l.all.items ≡ take l.n-index l.nums
