use mathlib.Core.Path.{sym}
use native.Mathlib.Omega.{arith}
use lib.ListN.{length}
use Rattle.magnetar_field.specs.Gf128.{value}
use Rattle.magnetar_field.specs.Words.{elements}
use Rattle.magnetar_field.proofs.Elements.{elements-length}
use Rattle.magnetar_multilinear.proofs.EqTables.{eq_at_bits-none, eq_at_bits-more}
use Rattle.magnetar_multilinear.proofs.eq.eq_product.Goals as goal

pub loop-j-init : goal.loop-j-init
loop-j-init c = sym (eq_at_bits-none _ _ (length c.args.bits.now) (rw elements-length (omega arith)) (omega arith))

pub loop-j-preserved : goal.loop-j-preserved
loop-j-preserved c =
    let l = c.loop-j in
    let x = c in
    let g = eq_at_bits-more (elements x.args.point.now) x.args.bits.now l.j (value l.acc) (omega arith)
    (rw elements-length (omega arith)) (omega arith) l.invariant in
    rw (c.mul-acc.ensures, c.eq_char2.ensures, c.get.ensures) g
