use Rattle.std.specs.Prelude.{◌<◌}
use native.Mathlib.Omega.{arith}
use lib.Count.{trailing_le}
use Rattle.magnetar_matrix.proofs.TableLaws.{added-in}
use Rattle.magnetar_matrix.proofs.SetBits.{lowest, cleared-less}
use Rattle.magnetar_batch.proofs.Selected.{selected-start, selected-more, selected-end}
use borrow.Author.Rules.{rules}
use Rattle.magnetar_batch.proofs.fold.add_word.Goals as goal

pub loop-left-init : goal.loop-left-init
loop-left-init c = (search rules, selected-start _ _ _ _)

pub overflow_cast-bit : goal.overflow_cast-bit
overflow_cast-bit c = omega (arith, trailing_le 64 c.loop-left.left)

pub overflow_add-base : goal.overflow_add-base
overflow_add-base c = omega (arith, trailing_le 64 c.loop-left.left)

pub loop-left-smaller : goal.loop-left-smaller
loop-left-smaller c = cleared-less c.loop-left.left (omega arith)

pub loop-left-preserved : goal.loop-left-preserved
loop-left-preserved c =
    let l = c.loop-left in
    let p : 0 < l.left = omega arith in (
      omega (arith, cleared-less l.left p),
      rw (c.add_at.ensures, added-in) (selected-more _ _ _ _ _ _ l.invariant.1 _ (lowest 64 l.left p l.invariant.0)),
    )

pub returns : goal.returns
returns c = selected-end _ _ _ _ _ _ c.loop-left.invariant.1 c.loop-left-test.false
