-- The verifier's answer phase by phase: a later phase decides where the earlier ones find nothing.
-- Assumes nothing.
use mathlib.Core.Path.{◌≡◌, refl}
use mathlib.Core.Bool.{Bool, true, false, cond}
use mathlib.Core.List.{List, [], ◌∷◌, ◌++◌}
use Prim.Native.Nat.{ℕ, zero, suc, ◌+◌, ◌*◌, ◌<◌}
use native.Mathlib.Omega.{arith}
use lib.Dec.{eqb, lit<}
use borrow.Author.Tests.{ne_eqb}
use Rattle.magnetar_field.specs.Tabulate.{tabulate}
use Rattle.magnetar_multilinear.specs.Multilinear.{mle}
use Rattle.magnetar_sumcheck_verifier.specs.Round.{running}
use Rattle.magnetar_sumcheck_verifier.specs.Inner.{inner_end}
use Rattle.magnetar_matrix.specs.Batch.{Relation}
use Rattle.magnetar_protocol.specs.Shape.{log_logins, log_bin, log_fld, log_cols, after_shared, after_bin, after_alphas, after_inner}
use Rattle.magnetar_protocol.specs.Draws.{Draws}
use Rattle.magnetar_protocol.specs.Proof.{inner_rounds, value_z}
use Rattle.magnetar_protocol.specs.Checks.{Check, round_holds, inner_claim, combined, bin_round, fld_round, first_failure, shared_checks, row_checks, terminal_checks, inner_checks}

-- each refusal has a number
abbrev pub Numbered : List Check → Type 0
Numbered [] = Unit {0}
Numbered (c ∷ cs) = (0 < c.refusal) × Numbered cs

pub numbered-append : (cs ds : List Check) → Numbered cs → Numbered ds → Numbered (cs ++ ds)
numbered-append [] ds h k = k
numbered-append (c ∷ cs) ds h k = (h.0, numbered-append cs ds h.1 k)

pub numbered-tabulate : (k : ℕ) (f : ℕ → Bool) (g : ℕ → ℕ) (n : ℕ)
    → Numbered (tabulate (λ i. record { refusal = suc k; passes = f i; events = g i }) n)
unfolding tabulate
numbered-tabulate k f g zero = tt
numbered-tabulate k f g (suc n) = (omega arith, numbered-tabulate k (λ i. f (suc i)) (λ i. g (suc i)) n)

-- a, or b where a is 0
abbrev pub or_else : ℕ → ℕ → ℕ
or_else a b = cond (eqb a 0) b a

pub first-append : (cs ds : List Check) → Numbered cs → first_failure (cs ++ ds) ≡ or_else (first_failure cs) (first_failure ds)
unfolding first_failure
first-append [] ds h = refl
first-append (c ∷ cs) ds h = step c.passes c.refusal (first_failure (cs ++ ds)) (first_failure cs) (first_failure ds) h.0
    (first-append cs ds h.1)
  where
    step : (p : Bool) (n both a b : ℕ) → 0 < n → both ≡ or_else a b → cond p both n ≡ or_else (cond p a n) b
    step true n both a b l e = e
    step false n both a b l e = rw (ne_eqb n 0 (λ z. omega arith))

module _ (r : Relation) (w : List ℕ) (D : Draws) where
  pub shared-numbered : (i n : ℕ) → Numbered (shared_checks r w D i n)
  unfolding shared_checks
  shared-numbered i zero = tt
  shared-numbered i (suc n) = (lit< tt, (lit< tt, shared-numbered (suc i) n))

  pub rows-numbered : Numbered (row_checks r w D)
  unfolding row_checks
  rows-numbered =
      numbered-append (tabulate (λ i. record { refusal = 23; passes = bin_round r w D (log_logins r + i); events = after_shared r + 2 * suc i }) (log_bin r))
      (tabulate (λ i. record { refusal = 24; passes = fld_round r w D (log_logins r + i); events = after_bin r + 2 * suc i }) (log_fld r))
      (numbered-tabulate 22 (λ i. bin_round r w D (log_logins r + i)) (λ i. after_shared r + 2 * suc i) (log_bin r))
      (numbered-tabulate 23 (λ i. fld_round r w D (log_logins r + i)) (λ i. after_bin r + 2 * suc i) (log_fld r))

  pub terminals-numbered : Numbered (terminal_checks r w D)
  unfolding terminal_checks
  terminals-numbered = (lit< tt, (lit< tt, tt))

  pub inner-numbered : Numbered (inner_checks r w D (combined r D))
  unfolding inner_checks
  inner-numbered =
      numbered-append (tabulate (λ i. record { refusal = 27; passes = inner_round i; events = after_alphas r + 2 * i }) (log_cols r))
      (record { refusal = 28; passes = inner_last; events = after_inner r } ∷ [])
      (numbered-tabulate 26 inner_round (λ i. after_alphas r + 2 * i) (log_cols r)) (lit< tt, tt)
    where
      inner_round : ℕ → Bool
      inner_round i = round_holds (inner_claim r w D) (inner_rounds r w) D.inner i

      inner_last : Bool
      inner_last = eqb (running (inner_claim r w D) (inner_rounds r w) D.inner) (inner_end (mle (combined r D) D.inner) (value_z r w))
