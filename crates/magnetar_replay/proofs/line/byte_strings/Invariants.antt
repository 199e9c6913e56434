use Rattle.std.proofs.Common.{◌≡◌, ◌/◌, map, flat_map, length, List, ℕ}
use denote.Ref.{Bor}
use Rattle.magnetar_replay.specs.Words.{spelled_bytes}
use Rattle.magnetar_replay.proofs.line.byte_strings.Given as goal

abbrev pub invariant-loop-word : goal.invariant-loop-word
invariant-loop-word l = record {
  bytes_so_far : l.bytes.items ≡ flat_map (λ (w : Bor (List ℕ)). spelled_bytes w.now) l.yielded;
  lens_so_far : l.lens.items ≡ map (λ (w : Bor (List ℕ)). length w.now / 2) l.yielded;
}
