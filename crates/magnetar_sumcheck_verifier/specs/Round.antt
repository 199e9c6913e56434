-- A round of the verifier, for messages of any degree: a message is the list of a polynomial's coefficients, that of 1 first. It is
-- right where its values at 0 and at 1 add up to the running claim, and its value at the challenge is the next running claim.
-- Source: the sum-check protocol, as in Spartan (Setty, CRYPTO 2020); the Rust's `round_external`.
-- Assumes nothing.
use Rattle.std.specs.Prelude.{Bool, cond, List, [], ◌∷◌, ℕ, eqb, drop}
use Rattle.magnetar_field.specs.Polynomial.{eval}
use Rattle.magnetar_sumcheck_verifier.specs.Sum.{total}

-- the value at 0 plus the value at 1: in characteristic two the first coefficient falls out
unfoldable pub check_sum : List ℕ → ℕ
check_sum m = total (drop 1 m)

-- whether the message m is right for the running claim c
unfoldable pub holds : List ℕ → ℕ → Bool
holds m c = eqb (check_sum m) c

-- the running claim after a round with the message m and the challenge r; a wrong message leaves it
unfoldable pub next_claim : ℕ → List ℕ → ℕ → ℕ
next_claim c m r = cond (holds m c) (eval m r) c

-- the running claim after all rounds
unfoldable pub running : ℕ → List (List ℕ) → List ℕ → ℕ
running c [] rs = c
running c (m ∷ ms) [] = c
running c (m ∷ ms) (r ∷ rs) = running (eval m r) ms rs
