use Rattle.std.proofs.Common.{arith, rules}
use Rattle.magnetar_field.proofs.Product.{⊗-lt}
use Rattle.magnetar_field.proofs.Power.{powering-start, powering-more, powering-end, powering-base}
use Rattle.magnetar_field.proofs.gf128.pow_word.Goals as goal

pub loop-init : goal.loop-init
loop-init c = record {
  result = c.requires.0;
  base = c.requires.1;
  powering = powering-start _ _ _ c.requires.1 (search rules);
}

pub loop-preserved : goal.loop-preserved
loop-preserved c =
    let v = c.loop.invariant in
    let e = c.pow_bit-q.ensures in record {
      result = rw e.result (⊗-lt _ _);
      base = rw e.base (⊗-lt _ _);
      powering = rw (e.result, e.base) (powering-more _ _ _ _ _ _ _ v.powering (omega arith) v.base);
    }

pub returns : goal.returns
returns c =
    let v = c.loop.invariant in record {
      result = powering-end _ _ _ _ _ _ _ v.powering (omega arith) v.result;
      base = powering-base _ _ _ _ _ _ _ v.powering (omega arith) (omega arith);
    }
