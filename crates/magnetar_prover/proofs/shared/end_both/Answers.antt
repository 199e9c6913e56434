use Rattle.magnetar_field.specs.Gf128.{value}
use Rattle.magnetar_prover.proofs.Sent.{drawn-more}
use mathlib.Core.Path.{◌∙◌, refl}
use native.Mathlib.Omega.{arith}
use Rattle.magnetar_prover.proofs.shared.end_both.Goals as goal

pub returns : goal.returns
returns c = let x = c.args in
    let e = c.element-r.ensures in
    let f = c.fold_both.ensures in record {
      transcript = refl;
      kb = c.eq_next.ensures ∙ rw e;
      kf = c.eq_next-2.ensures ∙ rw e;
      drawn = drawn-more x.draws.now c.put.new.s x.d (value c.element-r.result) c.put.ensures (omega arith) ∙ rw e;
      bin = rw (← e) f.bin;
      fld = rw (← e) f.fld;
    }
