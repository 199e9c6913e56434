use Rattle.std.specs.Prelude.{ℕ, ◌^◌, ◌<◌, get_or}
use Rattle.magnetar_field.specs.Words.{elements}
use Rattle.magnetar_multilinear.proofs.Evaluating.{Evaluating}
use Rattle.magnetar_batch.proofs.value.bind_all.Given as goal

-- the variables from j on are bound
abbrev pub invariant-loop-j : goal.invariant-loop-j
invariant-loop-j l = ((i : ℕ) → get_or l.t i 0 < 2 ^ 64) × Evaluating (elements l.p) (elements l.initial.t) (elements l.t) (2 ^ l.j) l.j
