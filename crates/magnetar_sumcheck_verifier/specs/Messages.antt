-- The honest prover's messages of a whole sum-check, round by round. That each is the exact polynomial of its round is proved: its values at
-- 0 and at 1 add up to the sum that is claimed (proofs/Values `outer-sum`, `inner-sum`), and its value at any r is the sum after the tables
-- are bound at r (`outer-bound`, `inner_bound`).
-- Source: Spartan (Setty, CRYPTO 2020), both sum-checks; document 01, "The run" (a message is the exact polynomial of its round).
-- Assumes nothing.
use Rattle.std.specs.Prelude.{List, [], ◌∷◌, ◌++◌, ℕ, suc, length, get_or, take, drop}
use Rattle.magnetar_field.specs.Gf128.{◌⊕◌, ◌⊗◌}
use Rattle.magnetar_multilinear.specs.EqTable.{eq_table}
use Rattle.magnetar_multilinear.specs.Multilinear.{bind_var}
use Rattle.magnetar_sumcheck_verifier.specs.Order.{next_var, fewer}
use Rattle.magnetar_sumcheck_verifier.specs.Outer.{weighted, outer_message, drop_var}
use Rattle.magnetar_sumcheck_verifier.specs.Inner.{inner_message}

-- what the prover of the outer sum-check holds: how many high variables are left, the tau of the variables that are left, the
-- product k of eq(tau_j, r_j) over those that are bound, the eq table of tau, and the tables
pub record Outer : Type 0 where
  pub high : ℕ
  pub tau : List ℕ
  pub k : ℕ
  pub e : List ℕ
  pub a : List ℕ
  pub b : List ℕ
  pub c : List ℕ

-- the sum that is claimed: over x of k e(x) (a(x) b(x) + c(x))
unfoldable pub outer_value : Outer → ℕ
outer_value S = S.k ⊗ weighted S.e (λ i. get_or S.a i 0 ⊗ get_or S.b i 0 ⊕ get_or S.c i 0) (length S.e)

-- the variable of the next round
abbrev pub outer_var : Outer → ℕ
outer_var S = next_var S.high (length S.tau)

-- its tau
abbrev pub outer_tau : Outer → ℕ
outer_tau S = get_or S.tau (outer_var S) 0

-- the next message
unfoldable pub outer_next : Outer → List ℕ
outer_next S = outer_message (outer_var S) S.k (outer_tau S) (drop_var (outer_var S) S.e) S.a S.b S.c

-- what the prover holds after a round with the challenge r
unfoldable pub outer_fold : ℕ → Outer → Outer
outer_fold r S = record {
  high = fewer S.high;
  tau = take (outer_var S) S.tau ++ drop (suc (outer_var S)) S.tau;
  k = S.k ⊗ (1 ⊕ outer_tau S ⊕ r);
  e = drop_var (outer_var S) S.e;
  a = bind_var (outer_var S) r S.a;
  b = bind_var (outer_var S) r S.b;
  c = bind_var (outer_var S) r S.c;
}

-- at the start
unfoldable pub outer_start : ℕ → List ℕ → List ℕ → List ℕ → List ℕ → Outer
outer_start s tau a b c = record { high = s; tau = tau; k = 1; e = eq_table tau; a = a; b = b; c = c }

-- the messages of as many rounds as there are challenges
unfoldable pub outer_messages : Outer → List ℕ → List (List ℕ)
outer_messages S [] = []
outer_messages S (r ∷ rs) = outer_next S ∷ outer_messages (outer_fold r S) rs

-- ---- the inner sum-check, which binds the lowest variable in every round
unfoldable pub inner_messages : List ℕ → List ℕ → List ℕ → List (List ℕ)
inner_messages t z [] = []
inner_messages t z (r ∷ rs) = inner_message 0 t z ∷ inner_messages (bind_var 0 r t) (bind_var 0 r z) rs
