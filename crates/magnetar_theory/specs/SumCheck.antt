-- The sum-check protocol, as Spartan has it: rounds over any kind of state, the verifier's checks and its running claim, the
-- honest prover's messages, and for each round the list of the challenges that let a wrong message through.
-- Source: the sum-check protocol, as in Spartan (Setty, CRYPTO 2020); document 01, "The run" (demand 3's lists).
-- Assumes nothing.
use Rattle.std.specs.Prelude.{◌≡◌, cond, ℕ, ◌<◌, length, take, get_or}
use mathlib.Core.List.{List, [], ◌∷◌, Memᴰ}
use Rattle.magnetar_theory.specs.Field.{Field, eval, all_zero}

-- states of a sum-check: the sum over a cube, the binding of the next variable, and the polynomial in that variable
pub record Rounds (F : Field) : Type 1 where
  pub St : Type 0
  pub value : St → F.K
  pub bind : F.K → St → St
  pub poly : St → List F.K

module _ (F : Field) where
  open F use {K, 𝟎, 𝟏, ◌⊕◌, ◌⊗◌, same, roots}

  infixl 60 ◌⊕◌
  infixl 70 ◌⊗◌
  -- the sum of the coefficients
  abbrev pub total : List K → K
  total [] = 𝟎
  total (c ∷ p) = c ⊕ total p

  -- the sum of the coefficients from index 1 on, which in characteristic two is p(0) + p(1)
  abbrev pub check_sum : List K → K
  check_sum [] = 𝟎
  check_sum (c ∷ p) = total p

  -- the rounds of the verifier: each message sums to the running claim, which becomes its value at the challenge
  abbrev pub Checks : K → List (List K) → List K → Type 0
  Checks c [] [] = Unit {0}
  Checks c [] (r ∷ rs) = ⊥
  Checks c (m ∷ ms) [] = ⊥
  Checks c (m ∷ ms) (r ∷ rs) = (check_sum m ≡ c) × Checks (eval F m r) ms rs

  -- the running claim after all rounds
  abbrev pub running : K → List (List K) → List K → K
  running c [] rs = c
  running c (m ∷ ms) [] = c
  running c (m ∷ ms) (r ∷ rs) = running (eval F m r) ms rs

  -- the sum of two lists entry by entry: of two polynomials, or of two vectors
  abbrev pub add_lists : List K → List K → List K
  add_lists [] q = q
  add_lists (c ∷ p) [] = c ∷ p
  add_lists (c ∷ p) (d ∷ q) = (c ⊕ d) ∷ add_lists p q

  -- the roots of p + q if the two differ, and none if they do not
  abbrev pub roots_of_diff : List K → List K → List K
  roots_of_diff p q = cond (all_zero F (add_lists p q)) [] (roots (add_lists p q))

  module _ (G : Rounds F) where
    open G use {St, value, bind, poly}

    -- the state after the challenges
    abbrev pub bind_all : List K → St → St
    bind_all [] S = S
    bind_all (r ∷ rs) S = bind_all rs (bind r S)

    -- the challenges of round i that a message m lets through: they depend on the start, the earlier challenges and m
    abbrev pub bad_challenges : St → List K → List K → List K
    bad_challenges S earlier m = roots_of_diff m (poly (bind_all earlier S))

    -- some challenge is in its round's list
    abbrev pub BadChallenge : St → List (List K) → List K → Type 0
    BadChallenge S ms rs = (i : ℕ) × (i < length rs) × Memᴰ (get_or rs i 𝟎) (bad_challenges S (take i rs) (get_or ms i []))

    -- the honest prover's messages: each is the state's own polynomial
    abbrev pub honest : St → List K → List (List K)
    honest S [] = []
    honest S (r ∷ rs) = poly S ∷ honest (bind r S) rs
