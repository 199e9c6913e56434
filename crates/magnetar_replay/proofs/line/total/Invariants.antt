use Rattle.std.proofs.Common.{◌≡◌, ◌-◌, ◌^◌, min, map, sum, ℕ}
use denote.Ref.{Bor}
use Rattle.magnetar_replay.proofs.line.total.Given as goal

abbrev pub invariant-loop-size : goal.invariant-loop-size
invariant-loop-size l = l.sum ≡ min (sum (map (λ (s : Bor ℕ). s.now) l.yielded)) (2 ^ 64 - 1)
