use mathlib.Core.Path.{refl, ◌∙◌}
use native.Mathlib.Omega.{arith}
use Rattle.magnetar_field.proofs.Elements.{elements-length}
use Rattle.magnetar_field.proofs.Log2.{power-is}
use Rattle.magnetar_multilinear.proofs.Bound.{bound-start, bound-more, bound-end}
use borrow.Author.Rules.{rules}
use Rattle.magnetar_multilinear.proofs.multilinear.bind.Goals as goal

pub loop-i-init : goal.loop-i-init
loop-i-init c = record {
  block = c.power_of_two-block.ensures ∙ power-is c.args.v (omega (arith, c.requires.small));
  room = refl;
  made = bound-start _ _ _;
}

pub loop-i-preserved : goal.loop-i-preserved
loop-i-preserved c =
    let l = c.loop-i in record {
      block = l.invariant.block;
      room = search rules;
      made =
          rw c.bind_entry.ensures
          (bound-more _ _ _ _ _ _ _ l.invariant.made (rw elements-length (omega (arith, c.requires.room))) l.invariant.block c.insert_zero.ensures);
    }

pub returns : goal.returns
returns c =
    bound-end _ _ _ _ _ _ c.loop-i.invariant.made (omega arith) c.requires.whole (rw elements-length (omega (arith, c.requires.room)))
