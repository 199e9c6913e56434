use Rattle.std.proofs.Common.{refl, arith, rules}
use Rattle.magnetar_field.proofs.Elements.{copy_more, copy-all}
use Rattle.magnetar_field.proofs.words.copy.Goals as goal

pub loop-i-init : goal.loop-i-init
loop-i-init c = (search rules, search rules, refl, refl)

pub loop-i-preserved : goal.loop-i-preserved
loop-i-preserved c = (search rules, search rules, search rules, copy_more _ _ _ _ c.loop-i.invariant.3 (omega arith) (omega arith))

pub returns : goal.returns
returns c = copy-all c.loop-i.i _ _ _ (omega arith) c.loop-i.invariant.3
