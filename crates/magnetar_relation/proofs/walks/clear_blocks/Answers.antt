use mathlib.Core.Path.{sym, ◌∙◌}
use native.Mathlib.Omega.{arith}
use Rattle.magnetar_matrix.proofs.Blocks.{product-fits}
use Rattle.magnetar_relation.specs.LoginSteps.{cleared_blocks}
use Rattle.magnetar_relation.proofs.WalkLaws.{reach}
use Rattle.magnetar_relation.proofs.walks.clear_blocks.Goals as goal

pub overflow_mul-q : goal.overflow_mul-q
overflow_mul-q c =
    let x = c.args in
    let r = reach x.q x.w x.n 0 (sym c.within_limits.ensures ∙ c.if-within_limits.true) in
    omega (arith, product-fits x.q x.n r.logins (omega (arith, r.rows)))

pub returns-then-within_limits : goal.returns-then-within_limits
unfolding cleared_blocks
returns-then-within_limits c = rw (← c.within_limits.ensures, c.if-within_limits.true) c.clear_front.ensures

pub returns-else-within_limits : goal.returns-else-within_limits
unfolding cleared_blocks
returns-else-within_limits c = rw (← c.within_limits.ensures, c.if-within_limits.false)
