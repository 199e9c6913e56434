-- An answer of 0 means that every check passes, and so that every round of each sum-check does.
-- Assumes nothing.
use mathlib.Core.Path.{◌≡◌, refl}
use mathlib.Core.Bool.{Bool, true, false, and-eq-true_iff}
use mathlib.Core.List.{List, [], ◌∷◌, ◌++◌}
use Prim.Native.Nat.{ℕ, zero, suc, ◌<◌}
use native.Mathlib.Omega.{arith}
use lib.ListN.{length}
use Rattle.magnetar_field.specs.Polynomial.{eval}
use Rattle.magnetar_field.specs.Tabulate.{tabulate}
use Rattle.magnetar_sumcheck_verifier.specs.Round.{holds, running}
use Rattle.magnetar_sumcheck_verifier.proofs.Verifier.{passes}
use Rattle.magnetar_protocol.specs.Checks.{Check, round_holds, first_failure}

-- ---- all rounds of one sum-check
pub rounds-pass : (c : ℕ) (ms : List (List ℕ)) (rs : List ℕ) → length ms ≡ length rs
    → ((i : ℕ) → i < length rs → round_holds c ms rs i ≡ true) → passes c ms rs ≡ true
unfolding passes round_holds running
rounds-pass c [] [] l h = refl
rounds-pass c [] (r ∷ rs) l h = absurd (omega arith)
rounds-pass c (m ∷ ms) [] l h = absurd (omega arith)
rounds-pass c (m ∷ ms) (r ∷ rs) l h =
    (and-eq-true_iff (holds m c) (passes (eval m r) ms rs)).1
    (h 0 (omega arith), rounds-pass (eval m r) ms rs (omega arith) (λ i k. h (suc i) (omega arith)))

pub pass-rounds : (c : ℕ) (ms : List (List ℕ)) (rs : List ℕ) → passes c ms rs ≡ true → (i : ℕ) → i < length rs → round_holds c ms rs i ≡ true
unfolding passes round_holds running
pass-rounds c [] [] h i k = absurd (omega arith)
pass-rounds c [] (r ∷ rs) h i k = absurd (never h)
  where
    never : false ≡ true → ⊥
    never e = let z : ◌≡◌ {A = ℕ} 0 1 = cc in omega arith
pass-rounds c (m ∷ ms) [] h i k = absurd (omega arith)
pass-rounds c (m ∷ ms) (r ∷ rs) h zero k = ((and-eq-true_iff (holds m c) (passes (eval m r) ms rs)).0 h).0
pass-rounds c (m ∷ ms) (r ∷ rs) h (suc i) k =
    pass-rounds (eval m r) ms rs ((and-eq-true_iff (holds m c) (passes (eval m r) ms rs)).0 h).1 i (omega arith)

-- ---- the first refusal, check by check
module _ (k : ℕ) where
  pub one_passes : (p : Bool) (n : ℕ) (rest : List Check) → first_failure (record { refusal = suc k; passes = p; events = n } ∷ rest) ≡ 0
      → (p ≡ true) × (first_failure rest ≡ 0)
  unfolding first_failure
  one_passes true n rest e = (refl, e)
  one_passes false n rest e = absurd (omega arith)

  pub passes-one : (p : Bool) (n : ℕ) (rest : List Check) → p ≡ true → first_failure rest ≡ 0
      → first_failure (record { refusal = suc k; passes = p; events = n } ∷ rest) ≡ 0
  unfolding first_failure
  passes-one true n rest h e = e
  passes-one false n rest h e = absurd (let z : ◌≡◌ {A = ℕ} 0 1 = cc in omega arith)

  pub all_pass : (f : ℕ → Bool) (g : ℕ → ℕ) (n : ℕ) (rest : List Check)
      → first_failure (tabulate (λ i. record { refusal = suc k; passes = f i; events = g i }) n ++ rest) ≡ 0
      → ((i : ℕ) → i < n → f i ≡ true) × (first_failure rest ≡ 0)
  unfolding tabulate
  all_pass f g zero rest e = ((λ i h. absurd (omega arith)), e)
  all_pass f g (suc n) rest e =
      let a = one_passes (f 0) (g 0) (tabulate (λ i. record { refusal = suc k; passes = f (suc i); events = g (suc i) }) n ++ rest) e in
      let b = all_pass (λ i. f (suc i)) (λ i. g (suc i)) n rest a.1 in
      (at f n a.0 b.0, b.1)
    where
      at : (f : ℕ → Bool) (n : ℕ) → f 0 ≡ true → ((i : ℕ) → i < n → f (suc i) ≡ true) → (i : ℕ) → i < suc n → f i ≡ true
      at f n a b zero h = a
      at f n a b (suc i) h = b i (omega arith)

  pub pass_all : (f : ℕ → Bool) (g : ℕ → ℕ) (n : ℕ) (rest : List Check) → ((i : ℕ) → i < n → f i ≡ true) → first_failure rest ≡ 0
      → first_failure (tabulate (λ i. record { refusal = suc k; passes = f i; events = g i }) n ++ rest) ≡ 0
  unfolding tabulate
  pass_all f g zero rest h e = e
  pass_all f g (suc n) rest h e =
      passes-one (f 0) (g 0) (tabulate (λ i. record { refusal = suc k; passes = f (suc i); events = g (suc i) }) n ++ rest) (h 0 (omega arith))
      (pass_all (λ i. f (suc i)) (λ i. g (suc i)) n rest (λ i l. h (suc i) (omega arith)) e)
