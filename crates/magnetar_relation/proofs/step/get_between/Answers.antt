use mathlib.Core.Path.{◌∙◌}
use native.Mathlib.Omega.{arith}
use Rattle.magnetar_relation.proofs.StepLaws.{between-some, between_none}
use Rattle.magnetar_relation.proofs.step.get_between.Goals as goal

pub returns-then-n-s : goal.returns-then-n-s
returns-then-n-s c =
    let x = c.args in
    c.get_front.ensures ∙ between-some x.n x.m x.k x.s.now

pub returns-else-n-s : goal.returns-else-n-s
returns-else-n-s c =
    let x = c.args in
    between_none x.n x.m x.k x.s.now (omega arith)
