use mathlib.Core.Path.{sym}
use native.Mathlib.Omega.{arith}
use Rattle.magnetar_field.specs.Words.{elements}
use Rattle.magnetar_matrix.proofs.Digits.{value-lt}
use Rattle.magnetar_matrix.proofs.TableLaws.{added-in, added-zero, public-one, public-x, public-none}
use borrow.Author.Rules.{rules}
use Rattle.magnetar_r1cs.proofs.walk.add_public_share.Goals as goal

pub returns-then-e-w : goal.returns-then-e-w
returns-then-e-w c =
    let x = c.args in
    let e = x.e in
    rw (
      ← public-one x.w (elements x.x.now) e.row e.col e.lo e.hi (omega arith) (value-lt e.hi e.lo (search rules) (search rules)),
      c.add_at.ensures,
      added-in,
      c.value.ensures,
    )

pub returns-then-e-w-2 : goal.returns-then-e-w-2
returns-then-e-w-2 c =
    let x = c.args in
    let e = x.e in
    rw (
      c.add_at-then-e-w-2.ensures,
      added-in,
      c.scale.ensures,
      c.value-then-e-w-2.ensures,
      c.get.ensures,
      public-x x.w (elements x.x.now) e.row e.col e.lo e.hi (omega arith),
    )

pub returns-else-e-w-2 : goal.returns-else-e-w-2
returns-else-e-w-2 c =
    let x = c.args in
    let e = x.e in
    rw (← public-none x.w (elements x.x.now) e.row e.col e.lo e.hi (omega arith)) (sym (added-zero _ _))
