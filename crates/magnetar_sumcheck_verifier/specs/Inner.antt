-- A round of the inner sum-check, of the sum over y of t(y) z(y): the exact polynomial of the round.
-- Source: Spartan (Setty, CRYPTO 2020), the second sum-check; document 01, "The run" (degree 2 inner).
-- Assumes nothing.
use Rattle.std.specs.Prelude.{List, [], ◌∷◌, ℕ, ◌/◌, length}
use Rattle.magnetar_field.specs.Gf128.{◌⊕◌, ◌⊗◌}
use Rattle.magnetar_sumcheck_verifier.specs.Sum.{sum_below}
use Rattle.magnetar_sumcheck_verifier.specs.Order.{at₀, slope}

-- the coefficients of t(X, y) z(X, y), summed over the n pairs
unfoldable pub inner_sums : ℕ → List ℕ → List ℕ → ℕ → List ℕ
inner_sums v t z n =
    sum_below n (λ i. at₀ v t i ⊗ at₀ v z i)
    ∷ sum_below n (λ i. at₀ v t i ⊗ slope v z i ⊕ slope v t i ⊗ at₀ v z i)
    ∷ sum_below n (λ i. slope v t i ⊗ slope v z i)
    ∷ []

-- the message: 3 coefficients, that of 1 first
unfoldable pub inner_message : ℕ → List ℕ → List ℕ → List ℕ
inner_message v t z = inner_sums v t z (length t / 2)

-- the terminal identity's right side
unfoldable pub inner_end : ℕ → ℕ → ℕ
inner_end t z = t ⊗ z
