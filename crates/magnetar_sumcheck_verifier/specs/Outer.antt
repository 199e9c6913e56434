-- A round of the outer sum-check, of the sum over x of eq(tau, x) (a(x) b(x) + c(x)): the exact polynomial of the round.
--
-- The eq factor is kept apart: k is the product of eq(tau_j, r_j) over the variables j that are bound, and e the eq table over
-- the variables that stay after this round. With X for this round's variable, and t for its tau, the factor is
-- k ((1 + t) + X) e(x), and the polynomial is
--   k ((1 + t) + X) (the sum over x of e(x) (a(X, x) b(X, x) + c(X, x))).
-- Source: Spartan (Setty, CRYPTO 2020), the first sum-check; document 01, "The run" (degree 3 outer); the Rust's `SumcheckProver::message`.
-- Assumes nothing.
use Rattle.std.specs.Prelude.{List, [], ◌∷◌, ℕ, ◌/◌, length, get_or}
use Rattle.magnetar_field.specs.Gf128.{◌⊕◌, ◌⊗◌}
use Rattle.magnetar_field.specs.Tabulate.{tabulate}
use Rattle.magnetar_sumcheck_verifier.specs.Sum.{sum_below}
use Rattle.magnetar_sumcheck_verifier.specs.Order.{at₀, at₁, slope}

-- the coefficients of a(X, x) b(X, x) + c(X, x) at pair i
unfoldable pub coefficient₀ : ℕ → List ℕ → List ℕ → List ℕ → ℕ → ℕ
coefficient₀ v a b c i = at₀ v a i ⊗ at₀ v b i ⊕ at₀ v c i

-- that of X
unfoldable pub coefficient₁ : ℕ → List ℕ → List ℕ → List ℕ → ℕ → ℕ
coefficient₁ v a b c i = at₀ v a i ⊗ slope v b i ⊕ slope v a i ⊗ at₀ v b i ⊕ slope v c i

-- that of X²
unfoldable pub coefficient₂ : ℕ → List ℕ → List ℕ → ℕ → ℕ
coefficient₂ v a b i = slope v a i ⊗ slope v b i

-- its value at X = 1
unfoldable pub at_one : ℕ → List ℕ → List ℕ → List ℕ → ℕ → ℕ
at_one v a b c i = at₁ v a i ⊗ at₁ v b i ⊕ at₁ v c i

-- the sum over the pairs, pair i weighted by e_i
unfoldable pub weighted : List ℕ → (ℕ → ℕ) → ℕ → ℕ
weighted e f n = sum_below n (λ i. get_or e i 0 ⊗ f i)

-- k ((1 + t) + X) (q₀ + q₁ X + q₂ X²)
unfoldable pub times_eq : ℕ → ℕ → ℕ → ℕ → ℕ → List ℕ
times_eq k t q₀ q₁ q₂ =
    k ⊗ ((1 ⊕ t) ⊗ q₀)
    ∷ (k ⊗ ((1 ⊕ t) ⊗ q₁ ⊕ q₀))
    ∷ (k ⊗ ((1 ⊕ t) ⊗ q₂ ⊕ q₁))
    ∷ (k ⊗ q₂)
    ∷ []

-- the message: 4 coefficients, that of 1 first
unfoldable pub outer_message : ℕ → ℕ → ℕ → List ℕ → List ℕ → List ℕ → List ℕ → List ℕ
outer_message v k t e a b c =
    times_eq k t (weighted e (coefficient₀ v a b c) (length e)) (weighted e (coefficient₁ v a b c) (length e))
    (weighted e (coefficient₂ v a b) (length e))

-- the eq table over the variables that stay: where v is 0 plus where it is 1, since (1 + t) + t = 1
unfoldable pub drop_var : ℕ → List ℕ → List ℕ
drop_var v t = tabulate (slope v t) (length t / 2)

-- the terminal identity's right side, with eq(tau, r) for e and the claimed values of the tables at r
unfoldable pub outer_end : ℕ → ℕ → ℕ → ℕ → ℕ
outer_end e a b c = e ⊗ (a ⊗ b ⊕ c)
