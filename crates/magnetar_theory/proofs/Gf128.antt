-- GF(2^128) meets the laws of a field, and taking the element of a number is a homomorphism.
-- Assumes nothing.
use mathlib.Core.Path.{◌≡◌, refl, sym, ap, ap₂, ◌∙◌, subst}
use mathlib.Core.Bool.{true, ◌&&◌, true≢false}
use mathlib.Core.List.{List, [], ◌∷◌, map, Memᴰ}
use mathlib.Core.HLevel.{Σ_prop_path}
use Prim.Native.Nat.{ℕ, suc, ◌%◌, ◌^◌, ◌≤◌, ◌<◌}
use native.Mathlib.Nat.{mod-eq_of_lt}
use native.Mathlib.Omega.{arith}
use native.Mathlib.Bridge.{le_prop}
use lib.ListN.{length, length-map}
use borrow.Author.Tests.{eqb-true, eqb-false, eq-eqb}
use Rattle.magnetar_field.specs.Gf128.{◌⊕◌, ◌⊗◌}
use Rattle.magnetar_field.specs.Polynomial.{roots, AllZero, eval as eval_n}
use Rattle.magnetar_field.proofs.Xor.{⊕-assoc, ⊕-comm, ⊕-self, ⊕-zero, ⊕-lt, ⊕-mod}
use Rattle.magnetar_field.proofs.Product.{⊗-assoc, ⊗-comm, ⊗-⊕, ⊗-one, ⊗-lt, ⊗-mod}
use Rattle.magnetar_field.proofs.Polynomial.{AllBelow}
use Rattle.magnetar_field.proofs.Roots.{root_in, roots_few}
use Rattle.magnetar_theory.specs.Field.{Ring, Laws, eval, all_zero}
use Rattle.magnetar_theory.specs.Gf128.{Element, number, element, element_sum, element_product, same, roots_of, gf128}

-- ---- numbers and elements
pub number_lt : (x : Element) → number x < 2 ^ 128
unfolding number
number_lt x = x.1

pub same_number : (x y : Element) → number x ≡ number y → x ≡ y
unfolding number
same_number x y e = Σ_prop_path (λ n. le_prop) e

pub number-element : (n : ℕ) → number (element n) ≡ n % 2 ^ 128
unfolding number element
number-element n = refl

pub number_of : (n : ℕ) → n < 2 ^ 128 → number (element n) ≡ n
number_of n h = number-element n ∙ mod-eq_of_lt h

pub element-number : (x : Element) → element (number x) ≡ x
element-number x = same_number (element (number x)) x (number_of (number x) (number_lt x))

pub element-inj : (m n : ℕ) → m < 2 ^ 128 → n < 2 ^ 128 → element m ≡ element n → m ≡ n
element-inj m n h k e = sym (number_of m h) ∙ ap number e ∙ number_of n k

pub number-sum : (x y : Element) → number (element_sum x y) ≡ number x ⊕ number y
unfolding element_sum
number-sum x y = number_of (number x ⊕ number y) (⊕-lt 128 (number x) (number y) (number_lt x) (number_lt y))

pub number-product : (x y : Element) → number (element_product x y) ≡ number x ⊗ number y
unfolding element_product
number-product x y = number_of (number x ⊗ number y) (⊗-lt (number x) (number y))

pub number-zero : number (element 0) ≡ 0
unfolding number element
number-zero = refl

pub number-one : number (element 1) ≡ 1
unfolding number element
number-one = refl

-- ---- the homomorphism
pub element-⊕ : (a b : ℕ) → element (a ⊕ b) ≡ element_sum (element a) (element b)
element-⊕ a b =
    same_number (element (a ⊕ b)) (element_sum (element a) (element b))
    (number-element (a ⊕ b) ∙ ⊕-mod a b 128 ∙ sym (ap₂ ◌⊕◌ (number-element a) (number-element b))
    ∙ sym (number-sum (element a) (element b)))

pub element-⊗ : (a b : ℕ) → element (a ⊗ b) ≡ element_product (element a) (element b)
element-⊗ a b =
    same_number (element (a ⊗ b)) (element_product (element a) (element b))
    (number_of (a ⊗ b) (⊗-lt a b) ∙ sym (⊗-mod a b) ∙ ⊗-comm a (b % 2 ^ 128) ∙ sym (⊗-mod (b % 2 ^ 128) a)
    ∙ ⊗-comm (b % 2 ^ 128) (a % 2 ^ 128)
    ∙ sym (ap₂ ◌⊗◌ (number-element a) (number-element b)) ∙ sym (number-product (element a) (element b)))

-- ---- the laws
pub gf128_ring : Ring gf128
unfolding same
gf128_ring = record {
  add_assoc = λ x y z. same_number _ _ (simp number-sum (⊕-assoc (number x) (number y) (number z)));
  add_comm = λ x y. same_number _ _ (simp number-sum (⊕-comm (number x) (number y)));
  add-zero = λ x. same_number _ _ (simp (number-sum, number-zero) (⊕-zero (number x)));
  add-self = λ x. same_number _ _ (simp (number-sum, number-zero) (⊕-self (number x)));
  mul_assoc = λ x y z. same_number _ _ (simp number-product (⊗-assoc (number x) (number y) (number z)));
  mul_comm = λ x y. same_number _ _ (simp number-product (⊗-comm (number x) (number y)));
  mul-one = λ x. same_number _ _ (simp (number-product, number-one) (⊗-one (number x) (number_lt x)));
  distrib = λ x y z. same_number _ _ (simp (number-product, number-sum) (⊗-⊕ (number x) (number y) (number z)));
  same_true = λ x y h. same_number x y (eqb-true (number x) (number y) h);
  same_false = λ x y h e. eqb-false (number x) (number y) h (ap number e);
}

numbers-below : (p : List Element) → AllBelow (2 ^ 128) (map number p)
numbers-below [] = tt
numbers-below (c ∷ p) = (number_lt c, numbers-below p)

-- ---- roots
number-eval : (p : List Element) (r : Element) → number (eval gf128 p r) ≡ eval_n (map number p) (number r)
unfolding eval_n
number-eval [] r = number-zero
number-eval (c ∷ p) r =
    number-sum c (element_product r (eval gf128 p r)) ∙ ap (λ (n : ℕ). number c ⊕ n) (number-product r (eval gf128 p r)
    ∙ ap (λ (n : ℕ). number r ⊗ n) (number-eval p r))

element-mem : (n : ℕ) {l : List ℕ} → Memᴰ n l → Memᴰ (element n) (map element l)
element-mem n {l = l} (Memᴰ.head q) = Memᴰ.head (ap element q)
element-mem n {l = m ∷ l} (Memᴰ.tail h) = Memᴰ.tail (element-mem n {l = l} h)

all-zero : (p : List Element) → AllZero (map number p) → all_zero gf128 p ≡ true
unfolding same
all-zero [] z = refl
all-zero (c ∷ p) z = ap₂ ◌&&◌ (eq-eqb (number c) (number (element 0)) (z.0 ∙ sym number-zero)) (all-zero p z.1)

pub gf128_laws : Laws gf128
unfolding roots_of
gf128_laws = record {
  is-ring = gf128_ring;
  root_listed = λ p r h e. subst (λ (x : Element). Memᴰ x (map element (roots (map number p)))) (element-number r)
      (element-mem (number r) (root_in (map number p) (number r) (number_lt r) (sym (number-eval p r) ∙ ap number e ∙ number-zero)));
  roots_few = λ c p h. few c p (roots_few (number c ∷ map number p) (numbers-below (c ∷ p))
      (λ z. true≢false (sym (all-zero (c ∷ p) z) ∙ h)));
}
  where
    few : (c : Element) (p : List Element) → length (roots (number c ∷ map number p)) < suc (length (map number p))
        → length (map element (roots (number c ∷ map number p))) ≤ length p
    few c p h = omega (arith, length-map (roots (number c ∷ map number p)) element, length-map p number)
