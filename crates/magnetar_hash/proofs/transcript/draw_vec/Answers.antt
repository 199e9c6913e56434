use Rattle.std.proofs.Common.{◌≡◌, ◌/◌, length, ap, arith}
use Rattle.magnetar_hash.proofs.Draws.{draws-none, draws-more}
use Rattle.magnetar_hash.proofs.transcript.draw_vec.Goals as goal

pub loop-i-init : goal.loop-i-init
loop-i-init c = draws-none _ _ _

pub loop-i-preserved : goal.loop-i-preserved
loop-i-preserved c =
    draws-more c.draw-u.result c.loop-i.invariant (omega arith) c.draw-u.ensures (ap (λ e. e.lo) c.element-x.ensures) (ap (λ e. e.hi) c.element-x.ensures)

pub returns : goal.returns
returns c =
    let d = c.loop-i.invariant in
    let e : c.loop-i.i ≡ length c.args.out.now / 2 = omega arith in
    (rw e at d.state, rw e at d.list)
