-- Taking elements of lists of numbers, part by part, and of their sums of products.
-- Assumes nothing.
use mathlib.Core.Path.{◌≡◌, refl, sym, ap, ap₂, ◌∙◌}
use mathlib.Core.List.{List, [], ◌∷◌, ◌++◌, map, reverse, reverse-cons}
use Prim.Native.Nat.{ℕ, zero, suc, ◌^◌, ◌<◌}
use lib.ListN.{get_or, take, drop, get_or-map}
use lib.Pow.{pow_pos}
use Rattle.magnetar_field.specs.Gf128.{◌⊗◌}
use Rattle.magnetar_multilinear.specs.Multilinear.{dot}
use Rattle.magnetar_field.proofs.Product.{⊗-lt}
use Rattle.magnetar_field.proofs.Xor.{⊕-lt}
use Rattle.magnetar_theory.specs.EqTable.{dot as dot_e}
use Rattle.magnetar_theory.specs.Gf128.{element, element_sum, gf128}
use Rattle.magnetar_theory.proofs.Gf128.{element-⊕, element-⊗}
use Rattle.magnetar_protocol.specs.Theory.{els}

module _ {A B : Type 0} (f : A → B) where
  pub map-append : (s t : List A) → map f (s ++ t) ≡ map f s ++ map f t
  map-append [] t = refl
  map-append (x ∷ s) t = ap (λ (l : List B). f x ∷ l) (map-append s t)

  pub map-take : (n : ℕ) (s : List A) → map f (take n s) ≡ take n (map f s)
  map-take zero s = refl
  map-take (suc n) [] = refl
  map-take (suc n) (x ∷ s) = ap (λ (l : List B). f x ∷ l) (map-take n s)

  pub map-drop : (n : ℕ) (s : List A) → map f (drop n s) ≡ drop n (map f s)
  map-drop zero s = refl
  map-drop (suc n) [] = refl
  map-drop (suc n) (x ∷ s) = map-drop n s

  pub map-reverse : (s : List A) → map f (reverse s) ≡ reverse (map f s)
  map-reverse [] = refl
  map-reverse (x ∷ s) =
      ap (map f) (reverse-cons x s) ∙ map-append (reverse s) (x ∷ []) ∙ ap (λ (l : List B). l ++ (f x ∷ [])) (map-reverse s)
      ∙ sym (reverse-cons (f x) (map f s))

pub els-at : (t : List ℕ) (i : ℕ) → get_or (els t) i (element 0) ≡ element (get_or t i 0)
els-at t i = get_or-map element t i 0

pub element-dot : (s t : List ℕ) → element (dot s t) ≡ dot_e gf128 (els s) (els t)
unfolding dot
element-dot [] t = refl
element-dot (x ∷ s) [] = refl
element-dot (x ∷ s) (y ∷ t) = element-⊕ (x ⊗ y) (dot s t) ∙ ap₂ element_sum (element-⊗ x y) (element-dot s t)

pub dot-lt : (s t : List ℕ) → dot s t < 2 ^ 128
unfolding dot
dot-lt [] t = pow_pos 128
dot-lt (x ∷ s) [] = pow_pos 128
dot-lt (x ∷ s) (y ∷ t) = ⊕-lt 128 (x ⊗ y) (dot s t) (⊗-lt x y) (dot-lt s t)
