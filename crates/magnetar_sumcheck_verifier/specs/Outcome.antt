-- The outcomes of a round of the verifier that is given the number n of coefficients wanted: refused, wrong or right.
-- Source: document 01, "Who can be turned back" (11); the Rust's `round_external`.
-- Assumes nothing.
use Rattle.std.specs.Prelude.{Bool, false, not, List, ℕ, ◌*◌, eqb, length, Result, Ok, Err}
use Rattle.magnetar_field.specs.Gf128.{value}
use Rattle.magnetar_field.specs.Number.{number}
use Rattle.magnetar_field.specs.Polynomial.{eval}
use Rattle.magnetar_field.specs.Refusal.{refuse, unless_refused}
use Rattle.magnetar_field.specs.Words.{elements}
use Rattle.magnetar_field.specs.declared.refusal.Refusal.{Refusal}
use Rattle.magnetar_sumcheck_verifier.specs.declared.verify.Round.{Round}
use Rattle.magnetar_sumcheck_verifier.specs.Round.{holds, next_claim}

-- whether the words m are those of n coefficients
unfoldable pub is_message : ℕ → List ℕ → Bool
is_message n m = eqb (length m) (2 * n)

-- ---- a round: the message's words m, the running claim c and the challenge r
-- the number of a refusal or 0, whether the message is right, and the running claim after the round
pub record RoundLeft : Type 0 where
  pub code : ℕ
  pub holds : Bool
  pub claim : ℕ

-- the same of what the functions return; one that is refused leaves the running claim c
abbrev pub left_by : ℕ → Result Round Refusal → RoundLeft
left_by c (Ok o) = record { code = 0; holds = o.holds; claim = value o.claim }
left_by c (Err e) = record { code = number e; holds = false; claim = c }

-- 11: the message is not of n coefficients
unfoldable pub round_refusal : ℕ → List ℕ → ℕ
round_refusal n m = refuse 11 (not (is_message n m)) 0

-- ---- `check_round`: the claim after the round is the message's value at the challenge, right or wrong
unfoldable pub check_outcome : ℕ → List ℕ → (c r : ℕ) → RoundLeft
check_outcome n m c r =
    unless_refused (round_refusal n m)
    (record { code = 0; holds = holds (elements m) c; claim = eval (elements m) r })
    (record { code = round_refusal n m; holds = false; claim = c })

-- ---- `round_external`: a refused message leaves the claim, as a wrong one does
unfoldable pub round_outcome : ℕ → List ℕ → (c r : ℕ) → RoundLeft
round_outcome n m c r =
    unless_refused (round_refusal n m)
    (record { code = 0; holds = holds (elements m) c; claim = next_claim c (elements m) r })
    (record { code = round_refusal n m; holds = false; claim = c })
