use mathlib.Core.Path.{sym, ◌∙◌}
use borrow.Author.Tests.{ltb-true}
use Rattle.magnetar_field.proofs.Product.{⊗-comm}
use Rattle.magnetar_matrix.proofs.Digits.{value-lt, digit-⊗}
use borrow.Author.Rules.{rules}
use Rattle.magnetar_batch.proofs.fold.times.Goals as goal

pub returns-then-is_bit : goal.returns-then-is_bit
returns-then-is_bit c =
    let x = c.args in
    let bit = ltb-true _ _ (sym c.is_bit.ensures ∙ c.if-is_bit.true) in
    c.mul_bit.ensures ∙ (digit-⊗ _ _ bit (value-lt x.e.hi x.e.lo (search rules) (search rules)) ∙ ⊗-comm _ _)
