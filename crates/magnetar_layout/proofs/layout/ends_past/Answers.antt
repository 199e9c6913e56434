use mathlib.Core.Path.{sym, ◌∙◌}
use native.Mathlib.Omega.{arith}
use borrow.Author.Tests.{lt-ltb, le-ltb}
use borrow.Author.Rules.{rules}
use Rattle.magnetar_layout.specs.Layout.{layout_end}
use Rattle.magnetar_layout.proofs.Laid.{each-size, laid-start, laid_more, laid_end, laid-within, multiple-of-is}
use Rattle.magnetar_layout.proofs.layout.ends_past.Goals as goal

pub loop-n-init : goal.loop-n-init
loop-n-init c = (search rules, laid-start _)

pub next_multiple_of-requires-clause-nonzero : goal.next_multiple_of-requires-clause-nonzero
next_multiple_of-requires-clause-nonzero c = (each-size _ _ c.loop-n.n-index c.requires.lens_value (omega arith)).least

pub overflow_add-c : goal.overflow_add-c
overflow_add-c c = let z = each-size _ _ c.loop-n.n-index c.requires.lens_value (omega arith) in omega (arith, z.most)

pub returns-then-c-w : goal.returns-then-c-w
returns-then-c-w c =
    let l = c.loop-n in
    let x = c.args in
    let z = each-size _ _ l.n-index c.requires.lens_value (omega arith) in
    let e = c.next_multiple_of.ensures.value ∙ multiple-of-is l.c _ z.least in
    let next = rw (← e) at (laid_more _ _ _ l.invariant.1 (omega arith)) in
    sym (lt-ltb x.w (layout_end x.lens.now) (omega (arith, laid-within _ _ _ _ next c.requires.lens_value)))

pub loop-n-preserved : goal.loop-n-preserved
loop-n-preserved c =
    let l = c.loop-n in
    let z = each-size _ _ l.n-index c.requires.lens_value (omega arith) in
    (omega arith, rw (c.next_multiple_of.ensures.value ∙ multiple-of-is l.c _ z.least) (laid_more _ _ _ l.invariant.1 (omega arith)))

pub returns : goal.returns
returns c =
    let x = c.args in
    sym (le-ltb x.w (layout_end x.lens.now) (omega (arith, laid_end _ _ _ c.loop-n.invariant.1 (omega arith))))
