-- What the one pass over the tables adds up, over the first n pairs: the constant coefficient, the value at 1, and the highest
-- coefficient. The middle one is the sum of all three. Only the contracts of private functions speak of this.
-- Assumes nothing.
use Rattle.std.specs.Prelude.{List, [], ◌∷◌, ℕ, ◌+◌, ◌^◌, get_or}
use Rattle.magnetar_field.specs.Gf128.{value, ◌⊕◌, ◌⊗◌}
use Rattle.magnetar_multilinear.specs.Multilinear.{insert_zero}
use Rattle.magnetar_sumcheck_prover.specs.declared.engine.Sums.{Sums}
use Rattle.magnetar_sumcheck_verifier.specs.Sum.{sum_below}
use Rattle.magnetar_sumcheck_verifier.specs.Order.{at₀, at₁, slope}
use Rattle.magnetar_sumcheck_verifier.specs.Outer.{coefficient₀, at_one, coefficient₂, weighted}

-- what is summed: its value at the entries k, which are of pair i, and its highest coefficient on the lines through those at lo and hi
pub record Summand : Type 0 where
  pub at : ℕ → ℕ → ℕ
  pub top : ℕ → ℕ → ℕ → ℕ

-- the three sums as numbers
unfoldable pub sums : Sums → List ℕ
sums s = value s.zero ∷ value s.one ∷ value s.top ∷ []

-- of a summand, over the first n pairs
unfoldable pub summed : ℕ → Summand → ℕ → List ℕ
summed v S n =
    sum_below n (λ i. S.at i (insert_zero v i))
    ∷ sum_below n (λ i. S.at i (insert_zero v i + 2 ^ v))
    ∷ sum_below n (λ i. S.top i (insert_zero v i) (insert_zero v i + 2 ^ v))
    ∷ []

-- the line through the entries at lo and hi: its slope
abbrev pub rise : List ℕ → ℕ → ℕ → ℕ
rise t lo hi = get_or t lo 0 ⊕ get_or t hi 0

-- of the outer sum-check: e_i (a b + c)
unfoldable pub outer_summand : List ℕ → List ℕ → List ℕ → List ℕ → Summand
outer_summand e a b c = record {
  at = λ i k. get_or e i 0 ⊗ (get_or a k 0 ⊗ get_or b k 0 ⊕ get_or c k 0);
  top = λ i lo hi. get_or e i 0 ⊗ (rise a lo hi ⊗ rise b lo hi);
}

-- its sums
unfoldable pub outer_sums : ℕ → List ℕ → List ℕ → List ℕ → List ℕ → ℕ → List ℕ
outer_sums v e a b c n = weighted e (coefficient₀ v a b c) n ∷ weighted e (at_one v a b c) n ∷ weighted e (coefficient₂ v a b) n ∷ []

-- of the inner sum-check: t z
unfoldable pub inner_summand : List ℕ → List ℕ → Summand
inner_summand t z = record { at = λ i k. get_or t k 0 ⊗ get_or z k 0; top = λ i lo hi. rise t lo hi ⊗ rise z lo hi }

-- its sums
unfoldable pub inner_sums_at : ℕ → List ℕ → List ℕ → ℕ → List ℕ
inner_sums_at v t z n =
    sum_below n (λ i. at₀ v t i ⊗ at₀ v z i)
    ∷ sum_below n (λ i. at₁ v t i ⊗ at₁ v z i)
    ∷ sum_below n (λ i. slope v t i ⊗ slope v z i)
    ∷ []
