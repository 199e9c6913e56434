use Rattle.std.proofs.Common.{◌≡◌, ◌++◌, ◌*◌, take, drop, map}
use Rattle.magnetar_field.specs.Gf128.{value}
use Rattle.magnetar_field.specs.Words.{words}
use Rattle.magnetar_sumcheck_prover.proofs.engine.put_all.Given as goal

abbrev pub invariant-loop-i : goal.invariant-loop-i
invariant-loop-i l = l.out ≡ words (map value (take l.i l.es)) ++ drop (2 * l.i) l.initial.out
