use Rattle.std.proofs.Common.{◌≡◌, map, List, ℕ}
use denote.Ref.{Bor}
use Rattle.magnetar_replay.specs.Words.{spelled_number}
use Rattle.magnetar_replay.proofs.line.numbers.Given as goal

abbrev pub invariant-loop-word : goal.invariant-loop-word
invariant-loop-word l = l.nums.items ≡ map (λ (w : Bor (List ℕ)). spelled_number w.now) l.yielded
