use native.Mathlib.Nat.{mod-eq_of_lt}
use native.Mathlib.Omega.{arith}
use lib.Pow.{pow_mono}
use Rattle.magnetar_prover.proofs.rounds.power_words.Goals as goal

pub returns : goal.returns
returns c = mod-eq_of_lt (omega (arith, pow_mono {i = c.args.n} {j = 62} (omega arith)))
