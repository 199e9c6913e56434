-- a^(2^n - 1), the product of the first n of a, a², a⁴, ..
-- Assumes nothing.
use Rattle.std.proofs.Common.{◌≡◌, ℕ, zero, suc, ◌^◌, ◌<◌, sym, refl, ap, ◌∙◌}
use Rattle.magnetar_field.specs.Gf128.{◌⊗◌}
use Rattle.magnetar_field.proofs.Product.{⊗-assoc, ⊗-one}
use Rattle.magnetar_field.proofs.Square.{sq, sqs, sqs-suc}

unfoldable pub norm : ℕ → ℕ → ℕ
norm zero a = 1
norm (suc n) a = norm n a ⊗ sqs n a

pub ⊗-norm : (n a : ℕ) → a < 2 ^ 128 → a ⊗ norm n a ≡ sqs n a
unfolding norm sqs
⊗-norm zero a h = ⊗-one a h
⊗-norm (suc n) a h =
    sym (⊗-assoc a (norm n a) (sqs n a)) ∙ ap (λ (x : ℕ). x ⊗ sqs n a) (⊗-norm n a h) ∙ same n ∙ sym (sqs-suc n a)
  where
    same : (k : ℕ) → sqs k a ⊗ sqs k a ≡ sq (sqs k a)
    same k = unfold sq in refl
