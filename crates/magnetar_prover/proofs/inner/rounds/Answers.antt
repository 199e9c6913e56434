use Rattle.magnetar_prover.proofs.InnerSteps.{inners-end, inners-next}
use native.Mathlib.Omega.{arith}
use Rattle.magnetar_prover.proofs.inner.rounds.Goals as goal

pub loop-i-preserved : goal.loop-i-preserved
loop-i-preserved c = let l = c.loop-i in
    let x = c.args in (
      omega arith,
      inners-next x.m c.round-u.result c.round-u.new.proof c.round-u.new.draws c.round-u.new.s l.invariant.1 (omega
          arith) c.round-u.ensures,
    )

pub returns : goal.returns
returns c = let x = c.args in let l = c.loop-i in inners-end x.k x.m l.i l.n _ l.u l.proof l.draws l.s l.invariant.1 (omega arith)
