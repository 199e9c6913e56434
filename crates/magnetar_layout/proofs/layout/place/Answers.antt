use Rattle.std.proofs.Common.{ℕ, ◌≡◌, ◌∙◌, length-take}
use native.Mathlib.Omega.{arith}
use borrow.Author.Rules.{rules}
use Rattle.magnetar_layout.proofs.Laid.{each-size, laid-start, laid_more, laid-within, laid-offset, multiple-of-is, taken}
use Rattle.magnetar_layout.proofs.layout.place.Goals as goal

pub loop-n-init : goal.loop-n-init
loop-n-init c = (search rules, laid-start _)

pub next_multiple_of-requires-clause-nonzero : goal.next_multiple_of-requires-clause-nonzero
next_multiple_of-requires-clause-nonzero c =
    let t = taken c.args.lens.now c.args.k c.loop-n.n-index (omega arith) in
    rw t.1 (each-size _ _ c.loop-n.n-index c.requires.layout_fits.lengths (omega (arith, t))).least

pub overflow_add-c : goal.overflow_add-c
overflow_add-c c =
    let t = taken c.args.lens.now c.args.k c.loop-n.n-index (omega arith) in
    let z = each-size _ _ c.loop-n.n-index c.requires.layout_fits.lengths (omega (arith, t)) in
    omega (arith, t.1, z.most)

pub loop-n-preserved : goal.loop-n-preserved
loop-n-preserved c =
    let l = c.loop-n in
    let t = taken c.args.lens.now c.args.k l.n-index (omega arith) in
    let z = each-size _ _ l.n-index c.requires.layout_fits.lengths (omega (arith, t)) in
    let next = laid_more _ _ _ l.invariant.1 (omega (arith, t)) in
    rw (c.next_multiple_of.ensures.value, t.1, multiple-of-is l.c _ z.least)
    (omega (arith, laid-within _ _ _ _ next c.requires.layout_fits.lengths), next)

pub next_multiple_of-requires-2-clause-nonzero : goal.next_multiple_of-requires-2-clause-nonzero
next_multiple_of-requires-2-clause-nonzero c = (each-size _ _ c.args.k c.requires.layout_fits.lengths (omega arith)).least

pub returns : goal.returns
returns c =
    let l = c.loop-n in
    let z = each-size _ _ c.args.k c.requires.layout_fits.lengths (omega arith) in
    let e : l.n-index ≡ c.args.k = omega (arith, length-take {A = ℕ}) in
    c.next_multiple_of-2.ensures.value ∙ multiple-of-is l.c _ z.least ∙ (rw e at (laid-offset _ _ _ l.invariant.1 (omega arith)))
