use mathlib.Core.Path.{sym}
use native.Mathlib.Omega.{arith}
use Rattle.magnetar_matrix.proofs.TableLaws.{added-in, added-zero, bit-some, bit-none}
use Rattle.magnetar_r1cs.proofs.walk.add_bit_share.Goals as goal

pub returns-then-e-w : goal.returns-then-e-w
returns-then-e-w c =
    let x = c.args in
    let e = x.e in
    rw (
      c.add_at.ensures,
      added-in,
      c.select.ensures,
      c.value.ensures,
      c.bit_at.ensures.value,
      bit-some x.w x.login.now e.row e.col e.lo e.hi (omega arith),
    )

pub returns-else-e-w : goal.returns-else-e-w
returns-else-e-w c =
    let x = c.args in
    let e = x.e in
    rw (← bit-none x.w x.login.now e.row e.col e.lo e.hi (omega arith)) (sym (added-zero _ _))
