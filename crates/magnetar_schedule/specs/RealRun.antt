-- The runs of both ends with their transcript: the draws are those that the transcript gives along the schedule.
-- Source: document 01, "The run" (the real run is one case of any draws); document 02, U6 (each login's own public columns).
-- Assumes nothing.
use Rattle.std.specs.Prelude.{◌≡◌, List, [], ℕ, zero, suc, length, take}
use Rattle.magnetar_hash.specs.declared.transcript.Transcript.{Transcript}
use Rattle.magnetar_matrix.specs.Batch.{Relation, Batch, PublicColumns}
use Rattle.magnetar_protocol.specs.Draws.{draw_count, draws_of}
use Rattle.magnetar_schedule.specs.Schedule.{schedule}
use Rattle.magnetar_schedule.specs.ScheduleRun.{run_from}
use Rattle.magnetar_protocol.specs.Checks.{checks, first_stop}
use Rattle.magnetar_protocol.specs.Run.{verdict, claims, ClaimsTrue}
use Rattle.magnetar_protocol.specs.Prover.{prover_proof, prover_claims}

-- ---- the verifier, given the public columns x of each login, the proof's elements w and the transcript t
-- the elements that it draws
unfoldable pub verifier_draws : Relation → List ℕ → Transcript → List ℕ
verifier_draws r w t = (run_from w (schedule r) t).draws

-- how many events it has played when it answers, with the draws d
unfoldable pub stop : Relation → PublicColumns → (w d : List ℕ) → ℕ
stop r x w d = first_stop (checks r x w (draws_of r d)) (length (schedule r))

-- its transcript when it answers
unfoldable pub verifier_transcript : Relation → PublicColumns → (w : List ℕ) → Transcript → Transcript
verifier_transcript r x w t = (run_from w (take (stop r x w (verifier_draws r w t)) (schedule r)) t).transcript

-- ---- the prover, given the batch b, the public columns x of each login and the transcript t
-- n times over, from no draws on: what a verifier would draw who is given the honest proof at the draws so far. Each message uses only the
-- draws before it, so that each time one more draw is right
unfoldable pub draws_after : Relation → Batch → PublicColumns → Transcript → ℕ → List ℕ
draws_after r b x t zero = []
draws_after r b x t (suc n) = verifier_draws r (prover_proof r b x (draws_after r b x t n)) t

-- the elements that it draws; no other list is drawn again from the honest proof at it (proofs/ProverDraws)
unfoldable pub prover_draws : Relation → Batch → PublicColumns → Transcript → List ℕ
prover_draws r b x t = draws_after r b x t (draw_count r)

-- the proof that it sends
unfoldable pub sent_proof : Relation → Batch → PublicColumns → Transcript → List ℕ
sent_proof r b x t = prover_proof r b x (prover_draws r b x t)

-- its transcript at the end
unfoldable pub prover_transcript : Relation → Batch → PublicColumns → Transcript → Transcript
prover_transcript r b x t = (run_from (sent_proof r b x t) (schedule r) t).transcript

-- ---- a verifier who is given these words, and the same transcript, draws what the prover drew, accepts, returns the same claims, all of
-- them true, and ends with the same transcript
pub record Agrees (r : Relation) (b : Batch) (x : PublicColumns) (t : Transcript) : Type 0 where
  pub same_draws : verifier_draws r (sent_proof r b x t) t ≡ prover_draws r b x t
  pub accepted : verdict r x (sent_proof r b x t) (verifier_draws r (sent_proof r b x t) t) ≡ 0
  pub same_claims : claims r (sent_proof r b x t) (verifier_draws r (sent_proof r b x t) t) ≡ prover_claims r b (prover_draws r b x t)
  pub true_claims : ClaimsTrue r b (claims r (sent_proof r b x t) (verifier_draws r (sent_proof r b x t) t))
  pub same_transcript : verifier_transcript r x (sent_proof r b x t) t ≡ prover_transcript r b x t
