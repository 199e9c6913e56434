use mathlib.Core.Path.{sym}
use native.Mathlib.Omega.{arith}
use Rattle.magnetar_matrix.proofs.TableLaws.{added-zero}
use Rattle.magnetar_r1cs.proofs.Flipped.{flip-none, flip-bit, flip_one, flip-entry}
use Rattle.magnetar_r1cs.proofs.masks.add_flip.Goals as goal
use Rattle.magnetar_r1cs.proofs.masks.add_flip.Goals.{then-e-w, else-e-w}

pub returns-after-e-w : goal.returns-after-e-w
returns-after-e-w c =
    let x = c.args in
    let e = x.e in
    elim c.if-e-w.branch [
      | then-e-w w ↦ rw (
        ← flip-entry x.w x.login.now x.t e.row e.col e.lo e.hi,
        c.add_word.ensures,
        c.shifted.ensures,
        w.bit-is,
        w.bit_at-bit.ensures.value,
        flip-bit x.w x.login.now x.t e.col e.lo c.requires c.if-e-ne0.true w.if-e-w.true,
      )
      | else-e-w w ↦ rw (
        ← flip-entry x.w x.login.now x.t e.row e.col e.lo e.hi,
        c.add_word.ensures,
        c.shifted.ensures,
        w.bit-is,
        flip_one x.w x.login.now x.t e.col e.lo c.requires c.if-e-ne0.true w.if-e-w.false,
      )
    ]

pub returns-else-e-ne0 : goal.returns-else-e-ne0
returns-else-e-ne0 c =
    let x = c.args in
    let e = x.e in
    rw (← flip-entry x.w x.login.now x.t e.row e.col e.lo e.hi, ← flip-none x.w x.login.now x.t e.col e.lo (omega arith)) (sym (added-zero _ _))
