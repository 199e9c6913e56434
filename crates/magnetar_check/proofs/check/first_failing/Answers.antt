use native.Mathlib.Omega.{arith}
use mathlib.Core.Path.{◌≡◌}
use Rattle.magnetar_check.specs.CheckSteps.{nothing, from}
use Rattle.magnetar_matrix.specs.Numbers.{entries_by}
use Rattle.magnetar_relation.specs.Rules.{system_at}
use Rattle.magnetar_check.proofs.RowWalk.{system-start, turn-none, turn-found}
use Rattle.magnetar_check.proofs.check.first_failing.Goals as goal

pub loop-login-init : goal.loop-login-init
loop-login-init g c = λ k h. system-start k _ _ _ _ _

pub returns-in-Some : goal.returns-in-Some
returns-in-Some g c = λ k h.
    let x = c.args in
    let t = system_at x.t x.a (entries_by (g.E.Entries.numbers x.es.now)) in
    turn-found k x.of.w x.of.packed.now x.of.x.now t (from nothing x.s.now) c.loop-login.login c.loop-login.s c.products.new.s
    (c.loop-login.invariant k h) (rw c.login.ensures at c.products.ensures) c.in-Some.row x.q
    c.in-Some.ensures.first c.in-Some.ensures.inside h c.loop-login-test.true

pub loop-login-preserved : goal.loop-login-preserved
loop-login-preserved g c = λ k h.
    let x = c.args in
    let t = system_at x.t x.a (entries_by (g.E.Entries.numbers x.es.now)) in
    turn-none k x.of.w x.of.packed.now x.of.x.now t (from nothing x.s.now) c.loop-login.login c.loop-login.s c.products.new.s
    (c.loop-login.invariant k h) (rw c.login.ensures at c.products.ensures)
    c.in_default.ensures.first

pub returns : goal.returns
returns g c = λ k h. let e : c.loop-login.login ≡ c.args.q = omega arith in rw e at (c.loop-login.invariant k h)
