-- The two theorems about a run with its transcript.
-- Assumes nothing.
use mathlib.Core.Path.{◌≡◌, sym, ap, ◌∙◌, subst}
use mathlib.Core.List.{List}
use Prim.Native.Nat.{ℕ, ◌+◌, ◌*◌, ◌≤◌, max}
use lib.ListN.{length, take}
use lib.Seq.{take-length}
use Rattle.magnetar_hash.specs.declared.transcript.Transcript.{Transcript}
use Rattle.magnetar_matrix.specs.Batch.{Relation, Batch, PublicColumns}
use Rattle.magnetar_theory.specs.Count.{natural_sum}
use Rattle.magnetar_protocol.specs.Shape.{log_logins, log_bin, log_fld, log_cols}
use Rattle.magnetar_schedule.specs.Schedule.{Event, schedule}
use Rattle.magnetar_schedule.specs.ScheduleRun.{run_from}
use Rattle.magnetar_protocol.specs.Run.{verdict, claims, ClaimsTrue}
use Rattle.magnetar_protocol.specs.RunSizes.{SizedRelation}
use Rattle.magnetar_protocol.specs.Soundness.{bad_draws, absorbed_before}
use Rattle.magnetar_protocol.specs.Prover.{prover_claims, CompleteRun}
use Rattle.magnetar_schedule.specs.RealRun.{verifier_draws, verifier_transcript, prover_draws, prover_transcript, sent_proof}
use Rattle.magnetar_protocol.proofs.Soundness.{soundness, all-lists}
use Rattle.magnetar_protocol.proofs.Completeness.{completeness}
use Rattle.magnetar_schedule.proofs.Counts.{verifier-count, verifier-elements}
use Rattle.magnetar_schedule.proofs.Blocks.{stop-accepted}
use Rattle.magnetar_schedule.proofs.ProverDraws.{prover-count, prover-elements, drawn-again}
use Rattle.magnetar_schedule.specs.Theorems.{SoundnessRun, CompletenessRun}

-- Where a verifier accepts whose draws are those of its transcript, no bit is set outside the segments and every returned claim is
-- true of the batch, the batch is good, or some draw lies in its list of at most three elements.
pub soundness-run : SoundnessRun
soundness-run r b x w t R B X lw ew =
    soundness r b x w (verifier_draws r w t) (record {
      run = record {
        relation = R;
        batch = B;
        public = X;
        draws = verifier-count r w t;
        elements_d = verifier-elements r w t;
      };
      words = lw;
      elements_w = ew;
    })

-- all lists along the run together
pub lists-run : (r : Relation) (b : Batch) (x : PublicColumns) (w : List ℕ) (t : Transcript) → SizedRelation r
    → natural_sum (length (verifier_draws r w t))
    (λ k. length (bad_draws r b x (take (absorbed_before r k) w) (take k (verifier_draws r w t))))
    ≤ 4 * (log_logins r + max (log_bin r) (log_fld r)) + 1 + 2 * log_cols r
lists-run r b x w t R = all-lists r b x w (verifier_draws r w t) R (verifier-count r w t)

-- Of a good batch, the verifier who is given the prover's proof and the same transcript agrees.
pub completeness-run : CompletenessRun
completeness-run r b x t R B X g = record {
  same_draws = drawn;
  accepted = accepts;
  same_claims = ap (claims r (sent_proof r b x t)) drawn ∙ claimed;
  true_claims = subst (ClaimsTrue r b) (sym (ap (claims r (sent_proof r b x t)) drawn ∙ claimed)) convinced.true_claims;
  same_transcript = ends;
}
  where
    convinced : CompleteRun r b x (prover_draws r b x t)
    convinced = completeness r b x (prover_draws r b x t) (record {
      relation = R;
      batch = B;
      public = X;
      draws = prover-count r b x t;
      elements_d = prover-elements r b x t;
    }) g

    drawn : verifier_draws r (sent_proof r b x t) t ≡ prover_draws r b x t
    drawn = drawn-again r b x t

    accepts : verdict r x (sent_proof r b x t) (verifier_draws r (sent_proof r b x t) t) ≡ 0
    accepts = ap (verdict r x (sent_proof r b x t)) drawn ∙ unfold sent_proof in convinced.accepted

    claimed : claims r (sent_proof r b x t) (prover_draws r b x t) ≡ prover_claims r b (prover_draws r b x t)
    claimed = unfold sent_proof in convinced.same_claims

    ends : verifier_transcript r x (sent_proof r b x t) t ≡ prover_transcript r b x t
    ends = unfold verifier_transcript prover_transcript in
        (ap (λ (n : ℕ). (run_from (sent_proof r b x t) (take n (schedule r)) t).transcript)
        (stop-accepted r x (sent_proof r b x t) (verifier_draws r (sent_proof r b x t) t) accepts)
        ∙ ap (λ (es : List Event). (run_from (sent_proof r b x t) es t).transcript) (take-length (schedule r)))
