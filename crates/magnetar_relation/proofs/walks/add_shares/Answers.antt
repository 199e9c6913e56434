use mathlib.Core.Path.{◌≡◌, sym, ◌∙◌}
use native.Mathlib.Omega.{arith}
use Rattle.magnetar_matrix.proofs.Blocks.{product-fits}
use Rattle.magnetar_relation.specs.LoginSteps.{added_logins}
use Rattle.magnetar_relation.proofs.WalkLaws.{reach, blocks-none, blocks-one}
use Rattle.magnetar_relation.proofs.walks.add_shares.Goals as goal

pub returns-then-not-within_limits : goal.returns-then-not-within_limits
unfolding added_logins
returns-then-not-within_limits c = rw (← c.within_limits.ensures, c.if-not-within_limits.true)

pub overflow_mul-k : goal.overflow_mul-k
overflow_mul-k c =
    let x = c.args in
    let r = reach x.of.q x.of.w x.of.n x.e.row (sym c.within_limits.ensures ∙ c.if-not-within_limits.false) in
    omega (arith, product-fits x.of.q x.of.n r.logins (omega (arith, r.rows)))

pub loop-u-init : goal.loop-u-init
loop-u-init c = blocks-none _ _ _ _ _

pub overflow_mul-at : goal.overflow_mul-at
overflow_mul-at c =
    let x = c.args in
    let u = c.loop-u.u in
    let r = reach x.of.q x.of.w x.of.n x.e.row (sym c.within_limits.ensures ∙ c.if-not-within_limits.false) in
    omega (arith, product-fits u x.of.n (omega (arith, r.logins, c.loop-u-test.true)) (omega (arith, r.rows)))

pub overflow_add-at : goal.overflow_add-at
overflow_add-at c =
    let x = c.args in
    let u = c.loop-u.u in
    let r = reach x.of.q x.of.w x.of.n x.e.row (sym c.within_limits.ensures ∙ c.if-not-within_limits.false) in
    omega (arith, product-fits u x.of.n (omega (arith, r.logins, c.loop-u-test.true)) (omega (arith, r.rows)), r.row, r.rows)

pub loop-u-preserved : goal.loop-u-preserved
loop-u-preserved c = blocks-one _ _ _ _ c.loop-u.u _ _ _ _ c.loop-u.invariant c.share_of.ensures c.add_to.ensures

pub returns : goal.returns
unfolding added_logins
returns c =
    let last : c.loop-u.u ≡ c.args.of.q = omega arith in
    rw (← c.within_limits.ensures, c.if-not-within_limits.false) (rw last at c.loop-u.invariant)
