use mathlib.Core.Path.{sym}
use native.Mathlib.Omega.{arith}
use Rattle.magnetar_field.specs.Gf128.{value}
use Rattle.magnetar_field.specs.Words.{elements}
use Rattle.magnetar_field.proofs.Elements.{elements-length}
use Rattle.magnetar_multilinear.proofs.Dots.{dot-none, dot-more}
use Rattle.magnetar_multilinear.proofs.multilinear.dot.Goals as goal

pub loop-j-init : goal.loop-j-init
loop-j-init c =
    let x = c.args in
    sym (dot-none x.xs.now x.ys.now c.min-j.result c.min-j.ensures)

pub loop-j-preserved : goal.loop-j-preserved
loop-j-preserved c =
    let l = c.loop-j in
    let x = c.args in
    let g = dot-more (elements x.xs.now) (elements x.ys.now) l.j (value l.acc) (omega arith)
    (rw elements-length (omega arith)) (rw elements-length (omega arith)) l.invariant in
    rw (c.add-acc.ensures, c.mul.ensures, c.get.ensures, c.get-in-loop-j.ensures) g
