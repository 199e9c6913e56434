use Rattle.std.proofs.Common.{arith}
use Rattle.magnetar_field.specs.Words.{elements}
use Rattle.magnetar_field.proofs.Elements.{elements-length}
use Rattle.magnetar_field.proofs.Making.{made_none}
use Rattle.magnetar_sumcheck_prover.proofs.EqFactor.{dropped-more}
use Rattle.magnetar_sumcheck_prover.proofs.public.drop_pairs.Goals as goal

pub loop-i-init : goal.loop-i-init
loop-i-init c = made_none _ _

pub loop-i-preserved : goal.loop-i-preserved
loop-i-preserved c =
    let x = c.args in
    rw c.drop_entry.ensures
    (dropped-more x.v c.loop-i.i c.low.result c.high.result (elements x.t.now) (elements c.loop-i.t) c.loop-i.invariant
    (rw elements-length (omega arith)) c.low.ensures.0 c.high.ensures)
