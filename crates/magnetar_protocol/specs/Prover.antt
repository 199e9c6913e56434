-- The honest prover's proof and claims, with the draws as plain elements: each message is the exact polynomial of its round, and
-- so uses only the draws before it (`magnetar_sumcheck_verifier` specs/Messages; proofs/HonestRun `words_are` says the same of all words in the theory).
-- Source: document 01, "The run" (the messages, true claims) and "Forms that give way" (the order of the proof).
-- Assumes nothing.
use Rattle.std.specs.Prelude.{◌≡◌, List, [], ◌∷◌, ◌++◌, ℕ, ◌/◌, length, take, drop}
use Rattle.magnetar_field.specs.Tabulate.{tabulate}
use Rattle.magnetar_multilinear.specs.Multilinear.{mle}
use Rattle.magnetar_sumcheck_verifier.specs.Messages.{outer_start, outer_messages, inner_messages}
use Rattle.magnetar_matrix.specs.Matrix.{Matrix, System}
use Rattle.magnetar_matrix.specs.Batch.{Relation, Batch, PublicColumns, batch_products, folded, public_folded}
use Rattle.magnetar_protocol.specs.Shape.{log_logins}
use Rattle.magnetar_protocol.specs.Draws.{Draws, draws_of, login_point, low_point}
use Rattle.magnetar_protocol.specs.Checks.{combined}
use Rattle.magnetar_protocol.specs.Run.{verdict, claims, true_value, ClaimsTrue}

-- messages one behind the other
unfoldable pub joined : List (List ℕ) → List ℕ
joined [] = []
joined (m ∷ ms) = m ++ joined ms

-- messages of two sum-checks in turn
unfoldable pub interleaved : List (List ℕ) → List (List ℕ) → List ℕ
interleaved [] ns = []
interleaved (m ∷ ms) [] = []
interleaved (m ∷ ms) (n ∷ ns) = m ++ (n ++ interleaved ms ns)

-- the true segment values
unfoldable pub true_values : Relation → Batch → Draws → List ℕ
true_values r b d = tabulate (true_value r b d) (length r.lengths)

module _ (r : Relation) (b : Batch) (x : PublicColumns) where
  -- the products of a matrix and the z of every login, one login behind the other
  unfoldable pub product_table : Matrix → List ℕ
  product_table m = batch_products m b x r.q

  module _ (d : Draws) where
    -- the rounds of the outer sum-check of one system
    unfoldable pub outer_rounds : System → (tau rows : List ℕ) → List (List ℕ)
    outer_rounds s tau rows =
        outer_messages (outer_start (log_logins r) tau (product_table s.a) (product_table s.b) (product_table s.c)) (d.shared ++ rows)

    -- of bin
    abbrev pub bin_rounds : List (List ℕ)
    bin_rounds = outer_rounds r.bin d.tau_bin d.row_bin

    -- of fld
    abbrev pub fld_rounds : List (List ℕ)
    fld_rounds = outer_rounds r.fld d.tau_fld d.row_fld

    -- the tables at the outer points
    unfoldable pub terminal_values : List ℕ
    terminal_values =
        mle (product_table r.bin.a) (d.row_bin ++ login_point d)
        ∷ mle (product_table r.bin.b) (d.row_bin ++ login_point d)
        ∷ mle (product_table r.bin.c) (d.row_bin ++ login_point d)
        ∷ mle (product_table r.fld.a) (d.row_fld ++ login_point d)
        ∷ mle (product_table r.fld.b) (d.row_fld ++ login_point d)
        ∷ mle (product_table r.fld.c) (d.row_fld ++ login_point d)
        ∷ []

    -- z folded over the logins: the folded bits, and the folded public halves
    unfoldable pub folded_z : List ℕ
    folded_z = folded r.q (r.m / 2) b (login_point d) ++ public_folded r.q (r.m / 2) x (login_point d)

    -- all elements of the proof: shared rounds, row rounds of bin and of fld, terminals, inner rounds, v_z, segment values
    unfoldable pub honest_proof : List ℕ
    honest_proof =
        interleaved (take (log_logins r) bin_rounds) (take (log_logins r) fld_rounds)
        ++ (joined (drop (log_logins r) bin_rounds)
        ++ (joined (drop (log_logins r) fld_rounds)
        ++ (terminal_values
        ++ (joined (inner_messages (combined r d) folded_z d.inner)
        ++ (mle folded_z d.inner ∷ true_values r b d)))))

-- the proof, from the draws in their order
unfoldable pub prover_proof : Relation → Batch → PublicColumns → (d : List ℕ) → List ℕ
prover_proof r b x d = honest_proof r b x (draws_of r d)

-- the claims buffer's elements: r_inst, r_low, then the true segment values
unfoldable pub prover_claims : Relation → Batch → List ℕ → List ℕ
prover_claims r b d = login_point (draws_of r d) ++ (low_point r (draws_of r d) ++ true_values r b (draws_of r d))

-- the honest proof is accepted, both ends return the same claims, and all of them are true
pub record CompleteRun (r : Relation) (b : Batch) (x : PublicColumns) (d : List ℕ) : Type 0 where
  pub accepted : verdict r x (prover_proof r b x d) d ≡ 0
  pub same_claims : claims r (prover_proof r b x d) d ≡ prover_claims r b d
  pub true_claims : ClaimsTrue r b (prover_claims r b d)
