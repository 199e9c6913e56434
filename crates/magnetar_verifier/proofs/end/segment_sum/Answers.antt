use mathlib.Core.Path.{refl}
use native.Mathlib.Omega.{arith}
use Rattle.magnetar_field.specs.Gf128.{value}
use Rattle.magnetar_field.specs.Words.{elements}
use Rattle.magnetar_field.proofs.Elements.{elements-length}
use Rattle.magnetar_verifier.proofs.EqNumbers.{step_of, segments-start, segments-more, segments-end}
use Rattle.magnetar_verifier.proofs.end.segment_sum.Goals as goal

pub loop-i-init : goal.loop-i-init
loop-i-init c = segments-start _ _ _

pub div_ceil-k-requires : goal.div_ceil-k-requires
div_ceil-k-requires c = (step_of _ _ _ _ _ _ _ c.requires.layout_fits c.loop-i.invariant (omega arith)).first

pub add_segment-acc-requires : goal.add_segment-acc-requires
add_segment-acc-requires c =
    let z = step_of _ _ _ _ _ _ _ c.requires.layout_fits c.loop-i.invariant (omega arith) in omega (arith, z.vars)

pub overflow_mul-c : goal.overflow_mul-c
overflow_mul-c c =
    let z = step_of _ _ _ _ _ _ _ c.requires.layout_fits c.loop-i.invariant (omega arith) in rw c.div_ceil-k.ensures (omega (arith, z))

pub overflow_add-c : goal.overflow_add-c
overflow_add-c c =
    let z = step_of _ _ _ _ _ _ _ c.requires.layout_fits c.loop-i.invariant (omega arith) in rw c.div_ceil-k.ensures (omega (arith, z))

pub loop-i-preserved : goal.loop-i-preserved
loop-i-preserved c =
    let x = c.args in
    let l = c.loop-i in
    segments-more x.w x.lens.now (elements x.low.now) (elements x.values.now) (value l.acc) l.c l.i c.div_ceil-k.result (value c.get.result)
    (value c.add_segment-acc.result) _ c.requires.layout_fits l.invariant (omega arith)
    (omega (arith, elements-length x.values.now, c.requires.low_len.1)) c.div_ceil-k.ensures c.get.ensures c.add_segment-acc.ensures refl

pub returns : goal.returns
returns c =
    let x = c.args in
    let l = c.loop-i in
    segments-end x.lens.now (elements x.low.now) (elements x.values.now) (value l.acc) l.c l.i l.invariant
    (omega (arith, elements-length x.values.now, c.requires.low_len.1))
