-- Entry i of the eq table is the product over j of p_j where bit j of i is 1, and of 1 + p_j where it is 0.
-- Assumes nothing: the field and its laws are parameters.
use mathlib.Core.Path.{◌≡◌, refl, ap, ap₂, ◌∙◌}
use mathlib.Core.List.{List, [], ◌∷◌}
use Prim.Native.Nat.{ℕ, zero, suc, ◌^◌, ◌<◌, ◌/◌, ◌%◌}
use native.Mathlib.Nat.{two-pow-succ}
use native.Mathlib.Omega.{arith}
use lib.ListN.{length, get_or}
use Rattle.magnetar_theory.specs.Field.{Field, Laws}
use Rattle.magnetar_theory.proofs.Ring.{ring}
use Rattle.magnetar_theory.specs.EqTable.{spread, eq_table}

module _ (F : Field) where
  open F use {K, 𝟎, 𝟏, ◌⊕◌, ◌⊗◌}

  infixl 60 ◌⊕◌
  infixl 70 ◌⊗◌
  -- the factor of an element p and a bit
  abbrev pub factor : K → ℕ → K
  factor p zero = 𝟏 ⊕ p
  factor p (suc b) = p

  abbrev pub eq_at : List K → ℕ → K
  eq_at [] i = 𝟏
  eq_at (p ∷ ps) i = factor p (i % 2) ⊗ eq_at ps (i / 2)

  module _ (L : Laws F) where
    times_zero : (k : K) → 𝟎 ≡ k ⊗ 𝟎
    times_zero k = simp (ring, L.is-ring)

    at-spread : (p : K) (t : List K) (i : ℕ) → get_or (spread F p t) i 𝟎 ≡ factor p (i % 2) ⊗ get_or t (i / 2) 𝟎
    at-spread p [] i = times_zero (factor p (i % 2))
    at-spread p (e ∷ t) zero = refl
    at-spread p (e ∷ t) (suc zero) = refl
    at-spread p (e ∷ t) (suc (suc i)) = at-spread p t i ∙ ap₂ (λ (b h : ℕ). factor p b ⊗ get_or (e ∷ t) h 𝟎) bit half
      where
        bit : i % 2 ≡ suc (suc i) % 2
        bit = omega arith

        half : suc (i / 2) ≡ suc (suc i) / 2
        half = omega arith

    pub eq-index : (ps : List K) (i : ℕ) → i < 2 ^ length ps → get_or (eq_table F ps) i 𝟎 ≡ eq_at ps i
    eq-index [] zero h = refl
    eq-index [] (suc i) h = absurd (omega arith)
    eq-index (p ∷ ps) i h = at-spread p (eq_table F ps) i
        ∙ ap (λ (w : K). factor p (i % 2) ⊗ w) (eq-index ps (i / 2) (omega (arith, two-pow-succ (length ps))))
