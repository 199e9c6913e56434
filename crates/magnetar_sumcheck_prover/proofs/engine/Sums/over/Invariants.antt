use Rattle.std.proofs.Common.{◌≡◌}
use Rattle.magnetar_sumcheck_prover.specs.Sums.{sums, summed}
use Rattle.magnetar_sumcheck_prover.proofs.engine.Sums.over.Given as goal

abbrev pub invariant-loop-i : goal.invariant-loop-i
invariant-loop-i g l = sums l.s ≡ summed l.v (g.S.Summed.summand l.of) l.i
