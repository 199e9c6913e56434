use mathlib.Core.Path.{sym, ◌∙◌}
use native.Mathlib.Omega.{arith}
use lib.Seq.{length-take-le}
use Rattle.magnetar_relation.specs.Steps.{front}
use Rattle.magnetar_relation.proofs.StepLaws.{front-all}
use Rattle.magnetar_relation.proofs.step.get_front.Goals as goal

pub slice_bounds-get-end : goal.slice_bounds-get-end
slice_bounds-get-end c = sym (length-take-le _ _ (omega arith))

pub returns-then-n-s : goal.returns-then-n-s
unfolding front
returns-then-n-s c = c.get.ensures

pub returns-else-n-s : goal.returns-else-n-s
returns-else-n-s c =
    let x = c.args in
    c.get-else-n-s.ensures ∙ front-all x.n x.k x.s.now (omega arith)
