use Rattle.std.proofs.Common.{◌≡◌, ◌*◌, ◌+◌, ◌<◌, ℕ, length, get_or}
use Rattle.magnetar_replay.specs.Words.{byte_value}
use Rattle.magnetar_replay.proofs.line.hash.Given as goal

abbrev pub invariant-loop-i : goal.invariant-loop-i
invariant-loop-i l = record {
  whole : length l.bytes ≡ 32;
  so_far : (k : ℕ) → k < l.i → get_or l.bytes k 0 ≡ byte_value (get_or l.letters (2 * k) 0) (get_or l.letters (2 * k + 1) 0);
}
