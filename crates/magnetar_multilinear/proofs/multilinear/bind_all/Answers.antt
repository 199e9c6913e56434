use mathlib.Core.Path.{◌∙◌}
use native.Mathlib.Omega.{arith}
use Rattle.magnetar_field.proofs.Elements.{elements-length, elements-below}
use Rattle.magnetar_multilinear.proofs.Evaluating.{evaluating-start, evaluating-more, evaluating-end}
use Rattle.magnetar_multilinear.proofs.multilinear.bind_all.Goals as goal

pub loop-j-init : goal.loop-j-init
loop-j-init c = record {
  small = omega arith;
  room = omega arith;
  words = λ i. omega (arith, c.type_inv.t i);
  same = evaluating-start _ _ _ _ (rw elements-length (omega arith)) (rw elements-length) (omega arith);
}

pub loop-j-preserved : goal.loop-j-preserved
loop-j-preserved c = record {
  small = omega arith;
  room = omega arith;
  words = λ i. omega (arith, c.type_inv.t i);
  same =
      evaluating-more _ _ _ _ _ _ c.loop-j.invariant.same (omega arith) (rw elements-length (omega arith))
      (rw elements-length (omega arith)) (c.bind.ensures ∙ rw c.get.ensures);
}

pub returns : goal.returns
returns c =
    evaluating-end _ _ _ _ _ (elements-below _ c.loop-j.invariant.words 0) (omega arith) c.loop-j.invariant.same
