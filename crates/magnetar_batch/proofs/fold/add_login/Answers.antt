use mathlib.Core.Logic.{inl, inr}
use native.Mathlib.Omega.{arith}
use Rattle.magnetar_batch.proofs.Selected.{columns-start, columns-more, columns-end}
use Rattle.magnetar_batch.proofs.fold.add_login.Goals as goal

pub loop-k-init : goal.loop-k-init
loop-k-init c = (omega arith, columns-start _ _ _ _)

pub returns-then-base-w : goal.returns-then-base-w
returns-then-base-w c = columns-end _ _ _ _ _ _ (inl c.if-base-w.true) c.loop-k.invariant.1

pub loop-k-preserved : goal.loop-k-preserved
loop-k-preserved c =
    let l = c.loop-k in (
      omega arith,
      columns-more _ _ _ l.k _ _ _ (omega (arith, c.type_inv.login l.k)) (omega arith) l.invariant.1 (rw c.kept.ensures at c.add_word.ensures),
    )

pub returns : goal.returns
returns c = columns-end _ _ _ _ _ _ (inr (omega arith)) c.loop-k.invariant.1
