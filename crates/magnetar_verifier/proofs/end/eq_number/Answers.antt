use mathlib.Core.Path.{◌∙◌}
use native.Mathlib.Omega.{arith}
use Rattle.magnetar_field.specs.Gf128.{value}
use Rattle.magnetar_field.specs.Words.{elements}
use Rattle.magnetar_field.proofs.Elements.{elements-length}
use Rattle.magnetar_verifier.proofs.EqNumbers.{times-start, times_more, times-end}
use Rattle.magnetar_verifier.proofs.end.eq_number.Goals as goal

pub loop-j-init : goal.loop-j-init
loop-j-init c = times-start _ _

pub loop-j-preserved : goal.loop-j-preserved
loop-j-preserved c =
    let l = c.loop-j in
    let x = c.args in
    times_more (elements x.point.now) x.k (value l.acc) l.rest l.j (value c.eq_char2.result) (value c.mul-acc.result)
    l.invariant (omega (arith, elements-length x.point.now)) (c.eq_char2.ensures ∙ rw c.get.ensures)
    c.mul-acc.ensures

pub returns : goal.returns
returns c =
    let l = c.loop-j in
    let x = c.args in
    times-end (elements x.point.now) x.k (value l.acc) l.rest l.j l.invariant (omega (arith, elements-length x.point.now))
