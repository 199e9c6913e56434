-- The polynomial of an outer round, with the eq factor kept apart, over any field: the sum over pairs, coefficient by coefficient.
-- Assumes nothing.
use mathlib.Core.Path.{◌≡◌, ap₂, ◌∙◌}
use mathlib.Core.List.{List, [], ◌∷◌}
use Prim.Native.Nat.{ℕ, zero, suc}
use Rattle.magnetar_field.specs.Tabulate.{tabulate}
use Rattle.magnetar_theory.specs.Field.{Field, Laws}
use Rattle.magnetar_theory.specs.SumCheck.{add_lists}
use Rattle.magnetar_theory.specs.Table.{poly_all}
use Rattle.magnetar_theory.specs.Cells.{line_at, OuterCell, outer_cells}
use Rattle.magnetar_theory.proofs.Ring.{ring}

module _ (F : Field) where
  open F use {K, 𝟎, 𝟏, ◌⊕◌, ◌⊗◌}

  infixl 60 ◌⊕◌
  infixl 70 ◌⊗◌
  -- f 0 + .. + f (n - 1), from the front
  abbrev pub sum_f : (ℕ → K) → ℕ → K
  sum_f f zero = 𝟎
  sum_f f (suc n) = f 0 ⊕ sum_f (λ i. f (suc i)) n

  -- k ((1 + t) + X) (q₀ + q₁ X + q₂ X²)
  abbrev pub times_eq_f : K → K → K → K → K → List K
  times_eq_f k t q₀ q₁ q₂ = k ⊗ ((𝟏 ⊕ t) ⊗ q₀) ∷ k ⊗ ((𝟏 ⊕ t) ⊗ q₁ ⊕ q₀) ∷ k ⊗ ((𝟏 ⊕ t) ⊗ q₂ ⊕ q₁) ∷ k ⊗ q₂ ∷ []

  -- what a pair adds to the coefficients, before its weight
  module _ (a₀ a₁ b₀ b₁ c₀ c₁ : K) where
    abbrev pub first : K
    first = a₀ ⊗ b₀ ⊕ c₀

    abbrev pub second : K
    second = a₀ ⊗ (b₀ ⊕ b₁) ⊕ (a₀ ⊕ a₁) ⊗ b₀ ⊕ (c₀ ⊕ c₁)

    abbrev pub third : K
    third = (a₀ ⊕ a₁) ⊗ (b₀ ⊕ b₁)

  module _ (k t : K) (e a₀ a₁ b₀ b₁ c₀ c₁ : ℕ → K) where
    -- the pair i of cells
    abbrev pub outer_pair : ℕ → OuterCell F × OuterCell F
    outer_pair i = (
      record { a = a₀ i; b = b₀ i; c = c₀ i; e = k ⊗ ((𝟏 ⊕ t) ⊗ e i) },
      record { a = a₁ i; b = b₁ i; c = c₁ i; e = k ⊗ (t ⊗ e i) },
    )

    abbrev pub q₀ : ℕ → K
    q₀ i = e i ⊗ first (a₀ i) (a₁ i) (b₀ i) (b₁ i) (c₀ i) (c₁ i)

    abbrev pub q₁ : ℕ → K
    q₁ i = e i ⊗ second (a₀ i) (a₁ i) (b₀ i) (b₁ i) (c₀ i) (c₁ i)

    abbrev pub q₂ : ℕ → K
    q₂ i = e i ⊗ third (a₀ i) (a₁ i) (b₀ i) (b₁ i) (c₀ i) (c₁ i)

  module _ (L : Laws F) where
    -- the cubic of one pair
    pair-poly : (k t e a₀ a₁ b₀ b₁ c₀ c₁ : K) →
        (outer_cells F).line (record { a = a₀; b = b₀; c = c₀; e = k ⊗ ((𝟏 ⊕ t) ⊗ e) }) (record { a = a₁; b = b₁; c = c₁; e = k ⊗ (t ⊗ e) })
        ≡ times_eq_f k t (e ⊗ first a₀ a₁ b₀ b₁ c₀ c₁) (e ⊗ second a₀ a₁ b₀ b₁ c₀ c₁) (e ⊗ third a₀ a₁ b₀ b₁ c₀ c₁)
    pair-poly k t e a₀ a₁ b₀ b₁ c₀ c₁ = λ i. p₀ i ∷ p₁ i ∷ p₂ i ∷ p₃ i ∷ []
      where
        p₀ : k ⊗ ((𝟏 ⊕ t) ⊗ e) ⊗ (a₀ ⊗ b₀ ⊕ c₀) ≡ k ⊗ ((𝟏 ⊕ t) ⊗ (e ⊗ (a₀ ⊗ b₀ ⊕ c₀)))
        p₀ = simp (ring, L.is-ring)

        p₁ : k ⊗ ((𝟏 ⊕ t) ⊗ e) ⊗ (a₀ ⊗ (b₀ ⊕ b₁) ⊕ (a₀ ⊕ a₁) ⊗ b₀ ⊕ (c₀ ⊕ c₁)) ⊕ (k ⊗ ((𝟏 ⊕ t) ⊗ e) ⊕ k ⊗ (t ⊗ e)) ⊗ (a₀ ⊗ b₀ ⊕ c₀)
            ≡ k ⊗ ((𝟏 ⊕ t) ⊗ (e ⊗ (a₀ ⊗ (b₀ ⊕ b₁) ⊕ (a₀ ⊕ a₁) ⊗ b₀ ⊕ (c₀ ⊕ c₁))) ⊕ e ⊗ (a₀ ⊗ b₀ ⊕ c₀))
        p₁ = simp (ring, L.is-ring)

        p₂ : k ⊗ ((𝟏 ⊕ t) ⊗ e) ⊗ ((a₀ ⊕ a₁) ⊗ (b₀ ⊕ b₁)) ⊕ (k ⊗ ((𝟏 ⊕ t) ⊗ e) ⊕ k ⊗ (t ⊗ e)) ⊗ (a₀ ⊗ (b₀ ⊕ b₁) ⊕ (a₀ ⊕ a₁) ⊗ b₀ ⊕ (c₀ ⊕ c₁))
            ≡ k ⊗ ((𝟏 ⊕ t) ⊗ (e ⊗ ((a₀ ⊕ a₁) ⊗ (b₀ ⊕ b₁))) ⊕ e ⊗ (a₀ ⊗ (b₀ ⊕ b₁) ⊕ (a₀ ⊕ a₁) ⊗ b₀ ⊕ (c₀ ⊕ c₁)))
        p₂ = simp (ring, L.is-ring)

        p₃ : (k ⊗ ((𝟏 ⊕ t) ⊗ e) ⊕ k ⊗ (t ⊗ e)) ⊗ ((a₀ ⊕ a₁) ⊗ (b₀ ⊕ b₁)) ≡ k ⊗ (e ⊗ ((a₀ ⊕ a₁) ⊗ (b₀ ⊕ b₁)))
        p₃ = simp (ring, L.is-ring)

    times_eq-add : (k t x y z u v w : K) → add_lists F (times_eq_f k t x y z) (times_eq_f k t u v w) ≡ times_eq_f k t (x ⊕ u) (y ⊕ v) (z ⊕ w)
    times_eq-add k t x y z u v w = λ i. p₀ i ∷ p₁ i ∷ p₂ i ∷ p₃ i ∷ []
      where
        p₀ : k ⊗ ((𝟏 ⊕ t) ⊗ x) ⊕ k ⊗ ((𝟏 ⊕ t) ⊗ u) ≡ k ⊗ ((𝟏 ⊕ t) ⊗ (x ⊕ u))
        p₀ = simp (ring, L.is-ring)

        p₁ : k ⊗ ((𝟏 ⊕ t) ⊗ y ⊕ x) ⊕ k ⊗ ((𝟏 ⊕ t) ⊗ v ⊕ u) ≡ k ⊗ ((𝟏 ⊕ t) ⊗ (y ⊕ v) ⊕ (x ⊕ u))
        p₁ = simp (ring, L.is-ring)

        p₂ : k ⊗ ((𝟏 ⊕ t) ⊗ z ⊕ y) ⊕ k ⊗ ((𝟏 ⊕ t) ⊗ w ⊕ v) ≡ k ⊗ ((𝟏 ⊕ t) ⊗ (z ⊕ w) ⊕ (y ⊕ v))
        p₂ = simp (ring, L.is-ring)

        p₃ : k ⊗ z ⊕ k ⊗ w ≡ k ⊗ (z ⊕ w)
        p₃ = simp (ring, L.is-ring)

    -- the weight's line at r
    pub weight-line : (k t e r : K) → line_at F r (k ⊗ ((𝟏 ⊕ t) ⊗ e)) (k ⊗ (t ⊗ e)) ≡ k ⊗ (𝟏 ⊕ t ⊕ r) ⊗ e
    weight-line k t e r = simp (ring, L.is-ring, line_at)

    one-sum : (x : K) → x ≡ x ⊕ 𝟎
    one-sum x = simp (ring, L.is-ring)

    -- the polynomial of the round, over one pair at least
    pub outer-poly : (n : ℕ) (k t : K) (e a₀ a₁ b₀ b₁ c₀ c₁ : ℕ → K)
        → poly_all F (outer_cells F) (tabulate (outer_pair k t e a₀ a₁ b₀ b₁ c₀ c₁) (suc n))
        ≡ times_eq_f k t (sum_f (q₀ k t e a₀ a₁ b₀ b₁ c₀ c₁) (suc n)) (sum_f (q₁ k t e a₀ a₁ b₀ b₁ c₀ c₁) (suc n))
        (sum_f (q₂ k t e a₀ a₁ b₀ b₁ c₀ c₁) (suc n))
    unfolding tabulate
    outer-poly zero k t e a₀ a₁ b₀ b₁ c₀ c₁ = pair-poly k t (e 0) (a₀ 0) (a₁ 0) (b₀ 0) (b₁ 0) (c₀ 0) (c₁ 0)
        ∙ (λ i. times_eq_f k t (one-sum (q₀ k t e a₀ a₁ b₀ b₁ c₀ c₁ 0) i) (one-sum (q₁ k t e a₀ a₁ b₀ b₁ c₀ c₁ 0) i)
        (one-sum (q₂ k t e a₀ a₁ b₀ b₁ c₀ c₁ 0) i))
    outer-poly (suc n) k t e a₀ a₁ b₀ b₁ c₀ c₁ =
        ap₂ (add_lists F) (pair-poly k t (e 0) (a₀ 0) (a₁ 0) (b₀ 0) (b₁ 0) (c₀ 0) (c₁ 0))
        (outer-poly n k t (λ i. e (suc i)) (λ i. a₀ (suc i)) (λ i. a₁ (suc i)) (λ i. b₀ (suc i)) (λ i. b₁ (suc i)) (λ i. c₀ (suc i))
        (λ i. c₁ (suc i)))
        ∙ times_eq-add k t _ _ _ _ _ _
