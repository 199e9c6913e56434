-- The theorem on the honest prover.
-- Assumes nothing.
use mathlib.Core.Path.{◌≡◌, sym, ap, subst}
use mathlib.Core.List.{List, ◌++◌}
use Prim.Native.Nat.{ℕ}
use lib.ListN.{length}
use Rattle.magnetar_field.proofs.Tabulation.{tabulate-get}
use Rattle.magnetar_matrix.specs.Batch.{Relation, Batch, PublicColumns, Good}
use Rattle.magnetar_theory.specs.Run.{Accepted, Proof}
use Rattle.magnetar_theory.specs.Gf128.{gf128}
use Rattle.magnetar_theory.proofs.Whole.{complete}
use Rattle.magnetar_protocol.specs.Draws.{Draws, draws_of, login_point, low_point}
use Rattle.magnetar_protocol.specs.Run.{verdict, claims, true_value, ClaimsTrue}
use Rattle.magnetar_protocol.specs.RunSizes.{SizedRun, SizedProof}
use Rattle.magnetar_protocol.specs.Theory.{relation_e, public_e, batch_e, draws_e}
use Rattle.magnetar_protocol.specs.Prover.{true_values, honest_proof, prover_proof, prover_claims}
use Rattle.magnetar_protocol.specs.Theorems.{Completeness}
use Rattle.magnetar_protocol.proofs.SizeFacts.{Cut, cut}
use Rattle.magnetar_protocol.proofs.Verdict.{of-holds}
use Rattle.magnetar_protocol.proofs.AcceptedHolds.{holds}
use Rattle.magnetar_protocol.proofs.GoodBatch.{good-theory}
use Rattle.magnetar_protocol.proofs.TrueClaims.{sizes}
use Rattle.magnetar_protocol.proofs.HonestParts.{segment-part, honest-length}
use Rattle.magnetar_protocol.proofs.HonestBelow.{honest-elements}
use Rattle.magnetar_protocol.proofs.HonestRun.{words_are}
use Rattle.magnetar_protocol.proofs.ClaimParts.{values-true}

module _ (r : Relation) (b : Batch) (x : PublicColumns) (d : List ℕ) (S : SizedRun r b x d) where
  -- the words are as many as document 01 says, and elements
  pub prover-sized : SizedProof r b x (prover_proof r b x d) d
  unfolding prover_proof
  prover-sized = record {
    run = S;
    words = honest-length r b x (draws_of r d) (cut r d S.draws);
    elements_w = honest-elements r b x
        (draws_of r d);
  }

  -- the claims that the verifier reads from the words are the prover's
  same_claims : claims r (prover_proof r b x d) d ≡ prover_claims r b d
  unfolding claims prover_claims prover_proof
  same_claims = ap (λ (l : List ℕ). login_point (draws_of r d) ++ (low_point r (draws_of r d) ++ l))
      (segment-part r b x (draws_of r d) (cut r d S.draws))

  -- they are true
  true_claims : ClaimsTrue r b (prover_claims r b d)
  unfolding prover_claims true_values
  true_claims = values-true r S.relation (draws_of r d) (cut r d S.draws) (true_values r b (draws_of r d)) b
      (λ i h. tabulate-get (true_value r b (draws_of r d)) (length r.lengths) i 0 h)

  honest-accepted : Good r b x → verdict r x (prover_proof r b x d) d ≡ 0
  unfolding verdict prover_proof
  honest-accepted g =
      of-holds r x (honest_proof r b x D) D C
      (holds r (honest_proof r b x D) D S.relation C (honest-length r b x D C) (honest-elements r b x D) x S.public
      (subst (λ (W : Proof gf128). Accepted gf128 (relation_e r) (public_e x) (draws_e r D) W)
      (sym (words_are r b x D S.relation S.batch S.public C))
      (complete (relation_e r) (public_e x) (batch_e b) (draws_e r D) (sizes r b D S.relation S.batch C x S.public g.clear)
      (good-theory r b x S.relation S.batch S.public g))))
    where
      D : Draws
      D = draws_of r d

      C : Cut r (draws_of r d)
      C = cut r d S.draws

-- Demand 3, second half.
pub completeness : (r : Relation) (b : Batch) (x : PublicColumns) (d : List ℕ) → Completeness r b x d
completeness r b x d S g = record {
  accepted = honest-accepted r b x d S g;
  same_claims = same_claims r b x d S;
  true_claims = true_claims r b x d S;
}
