use Rattle.magnetar_field.specs.Gf128.{value}
use Rattle.magnetar_prover.proofs.Sent.{drawn-more}
use mathlib.Core.Path.{◌∙◌, ap}
use native.Mathlib.Omega.{arith}
use Rattle.magnetar_prover.proofs.outer.Turn.end.Goals as goal

pub returns : goal.returns
returns c = let x = c.args in
    let r = ap value c.element-r.ensures in
    let f = c.fold.ensures in record {
      k = c.eq_next.ensures ∙ rw c.element-r.ensures;
      drawn = drawn-more x.draws.now c.put.new.s x.d (value c.element-r.result) c.put.ensures (omega arith) ∙ rw c.element-r.ensures;
      folded = rw (← c.element-r.ensures) f;
    }
