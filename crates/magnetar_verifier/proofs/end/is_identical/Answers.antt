use native.Mathlib.Omega.{arith}
use Rattle.std.proofs.lemmas.Grind.{common_steps}
use Rattle.magnetar_verifier.specs.EndSteps.{identical}
use Rattle.magnetar_verifier.proofs.end.is_identical.Goals as goal

pub returns : goal.returns
unfolding identical
returns c =
    let e = rw (c.mul-y.ensures, c.mul-x.ensures, c.add.ensures) at c.add-2.ensures in
    rw (← e) (grind (arith, common_steps))
