-- What the theory asks of GF(2^128), as a record of operations and a record of laws, and the polynomials over it: a commutative ring of
-- characteristic two in which the roots of a polynomial that is not zero are listed and few. Every finite field of characteristic two is
-- one; no inverse is asked for. The theory holds over every such ring, and is used at Gf128 alone.
-- Source: the laws of a finite field of characteristic two, as far as the theory uses them.
-- Assumes nothing.
use Rattle.std.specs.Prelude.{◌≡◌, Bool, true, false, ◌&&◌, ◌≤◌, length}
use mathlib.Core.List.{List, [], ◌∷◌, Memᴰ}

-- elements, zero, one, sum, product, the test for equality, the roots of a polynomial (coefficients, lowest first)
pub record Field : Type 1 where
  pub K : Type 0
  pub 𝟎 : K
  pub 𝟏 : K
  pub ◌⊕◌ : K → K → K
  pub ◌⊗◌ : K → K → K
  pub same : K → K → Bool
  pub roots : List K → List K

module _ (F : Field) where
  open F use {K, 𝟎, 𝟏, ◌⊕◌, ◌⊗◌, same, roots}

  infixl 60 ◌⊕◌
  infixl 70 ◌⊗◌
  -- the value of a polynomial at x
  abbrev pub eval : List K → K → K
  eval [] x = 𝟎
  eval (c ∷ p) x = c ⊕ x ⊗ eval p x

  -- every coefficient is zero
  abbrev pub all_zero : List K → Bool
  all_zero [] = true
  all_zero (c ∷ p) = same c 𝟎 && all_zero p

  -- a commutative ring with one, of characteristic two, with a true test for equality
  pub record Ring : Type 0 where
    pub add_assoc : (x y z : K) → (x ⊕ y) ⊕ z ≡ x ⊕ (y ⊕ z)
    pub add_comm : (x y : K) → x ⊕ y ≡ y ⊕ x
    pub add-zero : (x : K) → x ⊕ 𝟎 ≡ x
    pub add-self : (x : K) → x ⊕ x ≡ 𝟎
    pub mul_assoc : (x y z : K) → (x ⊗ y) ⊗ z ≡ x ⊗ (y ⊗ z)
    pub mul_comm : (x y : K) → x ⊗ y ≡ y ⊗ x
    pub mul-one : (x : K) → x ⊗ 𝟏 ≡ x
    pub distrib : (x y z : K) → x ⊗ (y ⊕ z) ≡ x ⊗ y ⊕ x ⊗ z
    pub same_true : (x y : K) → same x y ≡ true → x ≡ y
    pub same_false : (x y : K) → same x y ≡ false → ¬ (x ≡ y)

  -- such a ring in which the roots of a polynomial that is not zero are listed, fewer than its coefficients
  pub record Laws : Type 0 where
    pub is-ring : Ring
    pub root_listed : (p : List K) (r : K) → all_zero p ≡ false → eval p r ≡ 𝟎 → Memᴰ r (roots p)
    pub roots_few : (c : K) (p : List K) → all_zero (c ∷ p) ≡ false → length (roots (c ∷ p)) ≤ length p
