-- The elements of numbers carry the sums, products and polynomials of magnetar_multilinear over to the field of the theory.
-- Assumes nothing.
use mathlib.Core.Path.{◌≡◌, refl, ap, ◌∙◌}
use mathlib.Core.List.{List, [], ◌∷◌, map}
use Prim.Native.Nat.{ℕ, ◌^◌, ◌<◌}
use lib.Pow.{pow_pos}
use Rattle.magnetar_field.specs.Gf128.{◌⊕◌, ◌⊗◌}
use Rattle.magnetar_field.specs.Polynomial.{eval}
use Rattle.magnetar_multilinear.specs.Multilinear.{line}
use Rattle.magnetar_field.proofs.Polynomial.{AllBelow}
use Rattle.magnetar_field.proofs.Xor.{⊕-lt}
use Rattle.magnetar_theory.specs.Field.{eval as eval_e}
use Rattle.magnetar_theory.specs.SumCheck.{total as total_e, check_sum as check_sum_e}
use Rattle.magnetar_theory.specs.Cells.{line_at}
use Rattle.magnetar_theory.specs.Gf128.{element, element_sum, element_product, gf128}
use Rattle.magnetar_theory.proofs.Gf128.{element-⊕, element-⊗}
use Rattle.magnetar_sumcheck_verifier.specs.Sum.{total}
use Rattle.magnetar_sumcheck_verifier.specs.Round.{check_sum}

pub element-total : (m : List ℕ) → element (total m) ≡ total_e gf128 (map element m)
unfolding total
element-total [] = refl
element-total (c ∷ m) = element-⊕ c (total m) ∙ ap (element_sum (element c)) (element-total m)

pub element-check_sum : (m : List ℕ) → element (check_sum m) ≡ check_sum_e gf128 (map element m)
unfolding check_sum total
element-check_sum [] = refl
element-check_sum (c ∷ m) = element-total m

pub element-eval : (m : List ℕ) (r : ℕ) → element (eval m r) ≡ eval_e gf128 (map element m) (element r)
unfolding eval
element-eval [] r = refl
element-eval (c ∷ m) r =
    element-⊕ c (r ⊗ eval m r) ∙ ap (element_sum (element c)) (element-⊗ r (eval m r) ∙ ap (element_product (element r)) (element-eval m r))

-- the line through two entries
pub element-line : (r a b : ℕ) → element (line r a b) ≡ line_at gf128 (element r) (element a) (element b)
unfolding line
element-line r a b = element-⊕ a (r ⊗ (a ⊕ b)) ∙ ap (element_sum (element a)) (element-⊗ r (a ⊕ b) ∙ ap (element_product (element r)) (element-⊕ a b))

pub total-lt : (m : List ℕ) → AllBelow (2 ^ 128) m → total m < 2 ^ 128
unfolding total
total-lt [] h = zero-lt
  where
    zero-lt : 0 < 2 ^ 128
    zero-lt = pow_pos 128
total-lt (c ∷ m) h = ⊕-lt 128 c (total m) h.0 (total-lt m h.1)

pub check_sum-lt : (m : List ℕ) → AllBelow (2 ^ 128) m → check_sum m < 2 ^ 128
unfolding check_sum total
check_sum-lt [] h = pow_pos 128
check_sum-lt (c ∷ m) h = total-lt m h.1
