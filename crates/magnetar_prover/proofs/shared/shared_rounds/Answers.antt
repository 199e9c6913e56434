use Prim.Native.Nat.{◌<◌}
use Rattle.magnetar_field.specs.Gf128.{value}
use Rattle.magnetar_prover.proofs.SharedSteps.{sharing-end, sharing-next}
use native.Mathlib.Omega.{arith}
use Rattle.magnetar_prover.proofs.shared.shared_rounds.Goals as goal

pub loop-i-preserved : goal.loop-i-preserved
loop-i-preserved c = let l = c.loop-i in
    let x = c.args in
    let r = c.shared_round-r in
    let h : l.i < x.x = c.loop-i-test.true in (
      omega arith,
      omega arith,
      sharing-next l.invariant.2 h x.at.o x.at.q x.at.p x.at.d (value r.result.kb) (value r.result.kf) x.bin.w x.fld.w r.result.transcript r.new.proof
          r.new.draws r.new.s r.ensures,
    )

pub returns : goal.returns
returns c = let x = c.args in let l = c.loop-i in sharing-end x.x x.b x.f x.at.o x.at.q l.i l.m l.n x.at.p x.at.d (value l.y) (value l.z) x.bin.w
    x.fld.w _ l.u l.proof l.draws l.s l.invariant.2
    (omega arith)
