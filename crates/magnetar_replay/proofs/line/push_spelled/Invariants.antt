use Rattle.std.proofs.Common.{◌≡◌, ◌++◌}
use Rattle.std.specs.Slice.Iter.{chunks_exact_size, chunks_exact_rest}
use Rattle.magnetar_replay.specs.Words.{spelled_bytes}
use Rattle.magnetar_replay.proofs.line.push_spelled.Given as goal

abbrev pub invariant-loop-pair : goal.invariant-loop-pair
invariant-loop-pair l = record {
  pairs : chunks_exact_size l.pair-iterator ≡ 2;
  so_far : l.bytes.items ++ spelled_bytes (chunks_exact_rest l.pair-iterator) ≡ l.fn.bytes.items ++ spelled_bytes l.fn.word;
}
