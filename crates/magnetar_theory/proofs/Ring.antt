-- The laws of a ring of characteristic two, by name and as a ruleset for `simp`, which makes it a normaliser.
-- Assumes nothing: the field and its laws are parameters.
use mathlib.Core.Path.{◌≡◌, sym, ap, ◌∙◌}
use Rattle.magnetar_theory.specs.Field.{Field, Ring}

module _ (F : Field) where
  open F use {K, 𝟎, 𝟏, ◌⊕◌, ◌⊗◌, same, roots}

  infixl 60 ◌⊕◌
  infixl 70 ◌⊗◌
  module _ (L : Ring F) where
    pub add_assoc : (x y z : K) → (x ⊕ y) ⊕ z ≡ x ⊕ (y ⊕ z)
    add_assoc = L.add_assoc

    pub add_comm : (x y : K) → x ⊕ y ≡ y ⊕ x
    add_comm = L.add_comm

    pub add-zero : (x : K) → x ⊕ 𝟎 ≡ x
    add-zero = L.add-zero

    pub add-self : (x : K) → x ⊕ x ≡ 𝟎
    add-self = L.add-self

    pub mul_assoc : (x y z : K) → (x ⊗ y) ⊗ z ≡ x ⊗ (y ⊗ z)
    mul_assoc = L.mul_assoc

    pub mul_comm : (x y : K) → x ⊗ y ≡ y ⊗ x
    mul_comm = L.mul_comm

    pub mul-one : (x : K) → x ⊗ 𝟏 ≡ x
    mul-one = L.mul-one

    pub distrib : (x y z : K) → x ⊗ (y ⊕ z) ≡ x ⊗ y ⊕ x ⊗ z
    distrib = L.distrib

    pub add_left_comm : (x y z : K) → x ⊕ (y ⊕ z) ≡ y ⊕ (x ⊕ z)
    add_left_comm x y z = sym (add_assoc x y z) ∙ ap (λ (w : K). w ⊕ z) (add_comm x y) ∙ add_assoc y x z

    pub zero-add : (x : K) → 𝟎 ⊕ x ≡ x
    zero-add x = add_comm 𝟎 x ∙ add-zero x

    pub add-self-left : (x y : K) → x ⊕ (x ⊕ y) ≡ y
    add-self-left x y = sym (add_assoc x x y) ∙ ap (λ (w : K). w ⊕ y) (add-self x) ∙ zero-add y

    pub mul_left_comm : (x y z : K) → x ⊗ (y ⊗ z) ≡ y ⊗ (x ⊗ z)
    mul_left_comm x y z = sym (mul_assoc x y z) ∙ ap (λ (w : K). w ⊗ z) (mul_comm x y) ∙ mul_assoc y x z

    pub distrib-right : (x y z : K) → (x ⊕ y) ⊗ z ≡ x ⊗ z ⊕ y ⊗ z
    distrib-right x y z = rw (mul_comm (x ⊕ y) z, mul_comm x z, mul_comm y z) (distrib z x y)

    pub mul-zero : (x : K) → x ⊗ 𝟎 ≡ 𝟎
    mul-zero x = sym (add-self-left (x ⊗ 𝟎) (x ⊗ 𝟎)) ∙ ap (λ (w : K). x ⊗ 𝟎 ⊕ w) (sym (distrib x 𝟎 𝟎) ∙ ap (λ (w : K). x ⊗ w) (add-zero 𝟎))
        ∙ add-self (x ⊗ 𝟎)

    pub zero-mul : (x : K) → 𝟎 ⊗ x ≡ 𝟎
    zero-mul x = mul_comm 𝟎 x ∙ mul-zero x

    pub one-mul : (x : K) → 𝟏 ⊗ x ≡ x
    one-mul x = mul_comm 𝟏 x ∙ mul-one x

    pub ruleset ring = (
      add_assoc,
      add_comm,
      add_left_comm,
      add-zero,
      zero-add,
      add-self,
      add-self-left,
      mul_assoc,
      mul_comm,
      mul_left_comm,
      mul-one,
      one-mul,
      mul-zero,
      zero-mul,
      distrib,
      distrib-right,
    )
