use mathlib.Core.Path.{sym, ◌∙◌}
use native.Mathlib.Omega.{arith}
use borrow.Author.Tests.{ltb-true, ltb-false}
use Rattle.magnetar_batch.proofs.TableWalk.{cleared-behind-some, cleared-behind-none}
use Rattle.magnetar_batch.proofs.table.clear_behind.Goals as goal

pub returns-then-not-is_over : goal.returns-then-not-is_over
returns-then-not-is_over c =
    let x = c.args in
    cleared-behind-some x.m c.max-k.result _ x.s.now _ (omega arith) (ltb-false _ _ (sym c.is_over.ensures ∙ c.if-not-is_over.true)) c.clear.ensures

pub returns-else-not-is_over : goal.returns-else-not-is_over
returns-else-not-is_over c =
    let x = c.args in
    cleared-behind-none x.m c.max-k.result _ x.s.now (omega arith) (ltb-true _ _ (sym c.is_over.ensures ∙ c.if-not-is_over.false))
