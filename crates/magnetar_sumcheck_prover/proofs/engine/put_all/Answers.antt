use Rattle.std.proofs.Common.{◌∙◌, arith}
use Rattle.magnetar_field.specs.Words.{words}
use Rattle.magnetar_sumcheck_prover.proofs.Message.{stored-all}
use Rattle.magnetar_sumcheck_prover.proofs.engine.put_all.Goals as goal

pub loop-i-init : goal.loop-i-init
unfolding words
loop-i-init c = grind arith

pub loop-i-preserved : goal.loop-i-preserved
loop-i-preserved c = c.put.ensures
    ∙ stored-all c.args.out.now c.args.es.now c.loop-i.i _ c.loop-i.out (omega arith) c.requires c.loop-i.invariant
