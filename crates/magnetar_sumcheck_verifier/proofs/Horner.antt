-- The verifier's passes over a message, from its last coefficient to its first.
-- Assumes nothing.
use mathlib.Core.Path.{◌≡◌, sym, ap, ap₂, ◌∙◌}
use mathlib.Core.List.{List, [], ◌∷◌}
use Prim.Native.Nat.{ℕ, zero, suc, ◌-◌, ◌≤◌, ◌<◌, min}
use native.Mathlib.Omega.{arith}
use lib.ListN.{length, get_or, drop, drop_of_length-le}
use lib.Seq.{drop-cons}
use Rattle.magnetar_field.specs.Gf128.{◌⊕◌, ◌⊗◌}
use Rattle.magnetar_field.specs.Polynomial.{eval}
use Rattle.magnetar_sumcheck_verifier.specs.Sum.{total}
use Rattle.magnetar_sumcheck_verifier.specs.Round.{check_sum}

-- ---- the sum of the coefficients from i on
pub record Summed (m : List ℕ) (i acc : ℕ) : Type 0 where
  pub within : i ≤ length m
  pub above : min 1 (length m) ≤ i
  pub is : acc ≡ total (drop i m)

pub summed-start : (m : List ℕ) (n : ℕ) → n ≡ length m → Summed m n 0
unfolding total
summed-start m n e = record { within = omega arith; above = omega arith; is = ap total (sym (drop_of_length-le m {i = n} (omega arith))) }

pub summed-more : (m : List ℕ) (i acc x y : ℕ) → Summed m i acc → 1 < i → x ≡ get_or m (i - 1) 0 → y ≡ x ⊕ acc → Summed m (i - 1) y
unfolding total
summed-more m i acc x y s h p q = record {
  within = omega (arith, s.within);
  above = omega (arith, s.within);
  is = q ∙ ap₂ ◌⊕◌ p s.is ∙ sym (ap total (drop-cons m (i - 1) 0 (omega (arith, s.within))
      ∙ ap (λ (k : ℕ). get_or m (i - 1) 0 ∷ drop k m) back));
}
  where
    back : suc (i - 1) ≡ i
    back = omega arith

pub summed-end : (m : List ℕ) (i acc : ℕ) → Summed m i acc → i ≤ 1 → acc ≡ check_sum m
unfolding check_sum
summed-end [] i acc s h = s.is ∙ ap total (drop_of_length-le [] {i = i} (omega arith))
summed-end (c ∷ m) i acc s h = s.is ∙ ap (λ (k : ℕ). total (drop k (c ∷ m))) one
  where
    one : i ≡ 1
    one = omega (arith, s.above)

-- ---- the value of the coefficients from i on
pub record Evaluated (m : List ℕ) (r i acc : ℕ) : Type 0 where
  pub within : i ≤ length m
  pub is : acc ≡ eval (drop i m) r

pub evaluated-start : (m : List ℕ) (r n : ℕ) → n ≡ length m → Evaluated m r n 0
unfolding eval
evaluated-start m r n e = record {
  within = omega arith;
  is = ap (λ (l : List ℕ). eval l r)
      (sym (drop_of_length-le m {i = n} (omega arith)));
}

pub evaluated-more : (m : List ℕ) (r i acc x y : ℕ) → Evaluated m r i acc → 0 < i → x ≡ get_or m (i - 1) 0 → y ≡ x ⊕ r ⊗ acc
    → Evaluated m r (i - 1) y
unfolding eval
evaluated-more m r i acc x y s h p q = record {
  within = omega (arith, s.within);
  is = q ∙ ap₂ (λ (a b : ℕ). a ⊕ r ⊗ b) p s.is
      ∙ sym (ap (λ (l : List ℕ). eval l r) (drop-cons m (i - 1) 0 (omega (arith, s.within))
      ∙ ap (λ (k : ℕ). get_or m (i - 1) 0 ∷ drop k m) back));
}
  where
    back : suc (i - 1) ≡ i
    back = omega arith

pub evaluated-end : (m : List ℕ) (r i acc : ℕ) → Evaluated m r i acc → i ≤ 0 → acc ≡ eval m r
evaluated-end m r zero acc s h = s.is
evaluated-end m r (suc i) acc s h = absurd (omega arith)
