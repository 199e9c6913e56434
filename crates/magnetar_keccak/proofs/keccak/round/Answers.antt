use mathlib.Core.Path.{◌≡◌, sym}
use Prim.Native.Nat.{◌+◌, ◌*◌}
use native.Mathlib.Nat.{add-zero}
use native.Mathlib.Omega.{arith}
use Rattle.magnetar_keccak.specs.Keccak.{round, iota, theta, rho, pi}
use Rattle.magnetar_keccak.specs.State.{◌⊕◌}
use Rattle.magnetar_keccak.proofs.Lanes.{length-chi}
use Rattle.magnetar_keccak.proofs.Planes.{written-lane}
use Rattle.magnetar_keccak.proofs.Written.{written_none, written_all}
use Rattle.magnetar_keccak.proofs.keccak.round.Goals as goal

pub loop-y-init : goal.loop-y-init
loop-y-init c = written_none _ _ (sym (length-chi _))

pub plane_at-p-requires : goal.plane_at-p-requires
plane_at-p-requires c = (record { list = c.effects-d.ensures }, omega arith)

pub loop-x-init : goal.loop-x-init
loop-x-init c = rw add-zero c.loop-y.invariant

pub loop-x-preserved : goal.loop-x-preserved
loop-x-preserved c = written-lane _ _ _ _ _ c.loop-x.invariant (length-chi _) (omega arith) (omega arith) c.plane_at-p.ensures

pub loop-y-preserved : goal.loop-y-preserved
loop-y-preserved c =
    let e : 5 * c.loop-y.y + c.loop-x.x ≡ 5 * (c.loop-y.y + 1) = omega arith in
    rw e at c.loop-x.invariant

pub returns : goal.returns
unfolding round iota ◌⊕◌
returns c =
    let e = written_all _ _ _ c.loop-y.invariant (omega (arith, length-chi (pi (rho (theta c.args.a))))) in
    rw (e, c.round_constant.ensures)
