-- The verifier's rounds over numbers are those of the theory: the checks pass for the numbers where they hold for their elements.
-- Assumes nothing.
use mathlib.Core.Path.{◌≡◌, refl, sym, ap, ◌∙◌}
use mathlib.Core.Bool.{Bool, true, false, ◌&&◌, false≢true, and-eq-true_iff}
use mathlib.Core.List.{List, [], ◌∷◌, map}
use Prim.Native.Nat.{ℕ, ◌^◌, ◌<◌}
use borrow.Author.Tests.{eqb-true, eq-eqb}
use Rattle.magnetar_field.specs.Polynomial.{eval}
use Rattle.magnetar_field.proofs.Polynomial.{AllBelow, eval-lt}
use Rattle.magnetar_theory.specs.SumCheck.{Checks, check_sum as check_sum_e, running as running_e}
use Rattle.magnetar_theory.specs.Gf128.{Element, element, gf128}
use Rattle.magnetar_theory.proofs.Gf128.{element-inj}
use Rattle.magnetar_sumcheck_verifier.specs.Round.{check_sum, holds, next_claim, running}
use Rattle.magnetar_sumcheck_verifier.proofs.Hom.{element-check_sum, element-eval, check_sum-lt}

-- whether every message is right, each for the claim that the rounds before it leave; a message for each challenge
unfoldable pub passes : ℕ → List (List ℕ) → List ℕ → Bool
passes c [] [] = true
passes c [] (r ∷ rs) = false
passes c (m ∷ ms) [] = false
passes c (m ∷ ms) (r ∷ rs) = holds m c && passes (eval m r) ms rs

-- every coefficient is an element
abbrev pub MessagesBelow : List (List ℕ) → Type 0
MessagesBelow [] = Unit {0}
MessagesBelow (m ∷ ms) = AllBelow (2 ^ 128) m × MessagesBelow ms

pub holds-is : (m : List ℕ) (c : ℕ) → holds m c ≡ true → check_sum_e gf128 (map element m) ≡ element c
unfolding holds
holds-is m c h = sym (element-check_sum m) ∙ ap element (eqb-true (check_sum m) c h)

pub is-holds : (m : List ℕ) (c : ℕ) → AllBelow (2 ^ 128) m → c < 2 ^ 128 → check_sum_e gf128 (map element m) ≡ element c → holds m c ≡ true
unfolding holds
is-holds m c h k e = eq-eqb (check_sum m) c (element-inj (check_sum m) c (check_sum-lt m h) k (element-check_sum m ∙ e))

pub passes-checks : (c : ℕ) (ms : List (List ℕ)) (rs : List ℕ) → passes c ms rs ≡ true
    → Checks gf128 (element c) (map (map element) ms) (map element rs)
unfolding passes
passes-checks c [] [] h = tt
passes-checks c [] (r ∷ rs) h = absurd (false≢true h)
passes-checks c (m ∷ ms) [] h = absurd (false≢true h)
passes-checks c (m ∷ ms) (r ∷ rs) h =
    (holds-is m c both.0, rw (element-eval m r) at (passes-checks (eval m r) ms rs both.1))
  where
    both : (holds m c ≡ true) × (passes (eval m r) ms rs ≡ true)
    both = (and-eq-true_iff (holds m c) (passes (eval m r) ms rs)).0 h

pub checks-passes : (c : ℕ) (ms : List (List ℕ)) (rs : List ℕ) → c < 2 ^ 128 → MessagesBelow ms
    → Checks gf128 (element c) (map (map element) ms) (map element rs) → passes c ms rs ≡ true
unfolding passes
checks-passes c [] [] k b h = refl
checks-passes c [] (r ∷ rs) k b h = absurd h
checks-passes c (m ∷ ms) [] k b h = absurd h
checks-passes c (m ∷ ms) (r ∷ rs) k b h =
    (and-eq-true_iff (holds m c) (passes (eval m r) ms rs)).1
    (is-holds m c b.0 k h.0, checks-passes (eval m r) ms rs (eval-lt m r b.0) b.1 (rw (← element-eval m r) at h.1))

pub running-is : (c : ℕ) (ms : List (List ℕ)) (rs : List ℕ) → element (running c ms rs)
    ≡ running_e gf128 (element c) (map (map element) ms) (map element rs)
unfolding running
running-is c [] rs = refl
running-is c (m ∷ ms) [] = refl
running-is c (m ∷ ms) (r ∷ rs) = running-is (eval m r) ms rs
    ∙ ap (λ (v : Element). running_e gf128 v (map (map element) ms) (map element rs)) (element-eval m r)

-- one round at a time: a right message leaves the rest of the rounds to the next claim
pub passes-step : (c : ℕ) (m : List ℕ) (ms : List (List ℕ)) (r : ℕ) (rs : List ℕ) → holds m c ≡ true
    → passes c (m ∷ ms) (r ∷ rs) ≡ passes (next_claim c m r) ms rs
unfolding passes next_claim
passes-step c m ms r rs h = rw h

pub running-step : (c : ℕ) (m : List ℕ) (ms : List (List ℕ)) (r : ℕ) (rs : List ℕ) → holds m c ≡ true
    → running c (m ∷ ms) (r ∷ rs) ≡ running (next_claim c m r) ms rs
unfolding running next_claim
running-step c m ms r rs h = rw h

-- a wrong message: the rounds fail, and the claim stays
pub passes-stop : (c : ℕ) (m : List ℕ) (ms : List (List ℕ)) (r : ℕ) (rs : List ℕ) → holds m c ≡ false
    → (passes c (m ∷ ms) (r ∷ rs) ≡ false) × (next_claim c m r ≡ c)
unfolding passes next_claim
passes-stop c m ms r rs h = (rw h, rw h)
