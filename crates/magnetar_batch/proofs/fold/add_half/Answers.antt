use Rattle.std.specs.Prelude.{◌+◌}
use mathlib.Core.Path.{ap, ◌∙◌}
use native.Mathlib.Numerals.{add-one}
use native.Mathlib.Omega.{arith}
use Rattle.magnetar_field.specs.Gf128.{value}
use Rattle.magnetar_field.specs.Words.{elements}
use Rattle.magnetar_field.proofs.Elements.{elements-length}
use Rattle.magnetar_matrix.proofs.Digits.{value-lt}
use Rattle.magnetar_matrix.proofs.TableLaws.{added-in}
use Rattle.magnetar_batch.proofs.Halves.{columns-start, columns-more, half-end}
use borrow.Author.Rules.{rules}
use Rattle.magnetar_batch.proofs.fold.add_half.Goals as goal

pub loop-j-init : goal.loop-j-init
loop-j-init c = let x = c.args in columns-start (elements x.x.now) (elements x.s.now) (value x.e)

pub loop-j-preserved : goal.loop-j-preserved
loop-j-preserved c =
    let x = c.args in
    let l = c.loop-j in
    ap elements c.add_at.ensures ∙ (added-in l.s (l.j + 1) _
    ∙ rw (c.times.ensures, c.get.ensures, l.invariant, add-one) (columns-more (elements x.x.now) (elements x.s.now) (value x.e) l.j))

pub returns : goal.returns
returns c =
    let l = c.loop-j in
    let x = c.args in
    ap elements c.add_at-2.ensures ∙ (added-in l.s 0 _
    ∙ half-end (elements x.x.now) (elements x.s.now) (elements l.s) (value x.e) l.j (value-lt x.e.hi x.e.lo (search rules) (search rules))
    (omega (arith, elements-length x.x.now)) l.invariant)
