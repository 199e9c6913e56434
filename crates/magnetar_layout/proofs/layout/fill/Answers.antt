use mathlib.Core.Path.{◌≡◌, refl, ◌∙◌}
use native.Mathlib.Omega.{arith}
use lib.ListN.{length}
use lib.Seq.{take_all}
use Rattle.magnetar_layout.specs.Layout.{offsets}
use Rattle.magnetar_field.proofs.Elements.{copy_more}
use Rattle.magnetar_layout.proofs.Laid.{each-size, laid-start, laid_more, laid-within, laid-offset, multiple-of-is, offsets-length}
use borrow.Author.Rules.{rules}
use Rattle.magnetar_layout.proofs.layout.fill.Goals as goal

pub loop-i-init : goal.loop-i-init
loop-i-init c = (search rules, laid-start _, refl)

pub next_multiple_of-o-requires-clause-nonzero : goal.next_multiple_of-o-requires-clause-nonzero
next_multiple_of-o-requires-clause-nonzero c = (each-size _ _ c.loop-i.i c.requires.layout_fits.lengths (omega arith)).least

pub overflow_add-c : goal.overflow_add-c
overflow_add-c c = let z = each-size _ _ c.loop-i.i c.requires.layout_fits.lengths (omega arith) in omega (arith, z.most)

pub loop-i-preserved : goal.loop-i-preserved
loop-i-preserved c =
    let l = c.loop-i in
    let z = each-size _ _ l.i c.requires.layout_fits.lengths (omega arith) in
    let e = c.next_multiple_of-o.ensures.value ∙ multiple-of-is l.c _ z.least in
    let next = rw (← e) at (laid_more _ _ _ l.invariant.1 (omega arith)) in
    let o = e ∙ laid-offset _ _ _ l.invariant.1 (omega arith) in (
      omega (arith, laid-within _ _ _ _ next c.requires.layout_fits.lengths),
      next,
      rw o (copy_more l.i _ _ _ l.invariant.2 (rw offsets-length (omega arith)) (omega arith)),
    )

pub returns : goal.returns
returns c =
    let l = c.loop-i in
    let x = c.args in
    let e : l.i ≡ length x.lens.now = omega arith in
    l.invariant.2 ∙ rw (take_all l.i (offsets x.lens.now) (rw offsets-length (omega arith)), e)
