use Rattle.std.proofs.Common.{◌≡◌, ◌<◌, ℕ, length, get_or}
use Rattle.magnetar_replay.proofs.line.digest.Given as goal

abbrev pub invariant-loop-i : goal.invariant-loop-i
invariant-loop-i l = record {
  whole : length l.digest ≡ 32;
  so_far : (k : ℕ) → k < l.i → get_or l.digest k 0 ≡ get_or l.bytes k 0;
}
