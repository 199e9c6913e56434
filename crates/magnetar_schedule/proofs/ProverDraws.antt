-- The prover's draws: they are the only list that a verifier draws again who is given the honest proof at it.
-- Assumes nothing.
use mathlib.Core.Path.{◌≡◌, refl, sym, ap, ◌∙◌, subst}
use mathlib.Core.List.{List, [], ◌++◌}
use Prim.Native.Nat.{ℕ, zero, suc, ◌≤◌}
use native.Mathlib.Omega.{arith}
use lib.ListN.{length, take}
use lib.Seq.{take_all}
use Rattle.magnetar_hash.specs.declared.transcript.Transcript.{Transcript}
use Rattle.magnetar_matrix.specs.Batch.{Relation, Batch, PublicColumns}
use Rattle.magnetar_protocol.specs.Shape.{proof_elements}
use Rattle.magnetar_protocol.specs.Draws.{draw_count, draws_of, login_point, low_point}
use Rattle.magnetar_schedule.specs.Schedule.{schedule}
use Rattle.magnetar_schedule.specs.ScheduleRun.{start}
use Rattle.magnetar_protocol.specs.Run.{claims}
use Rattle.magnetar_protocol.specs.RunSizes.{Elements}
use Rattle.magnetar_protocol.specs.Prover.{prover_proof, prover_claims}
use Rattle.magnetar_schedule.specs.RealRun.{verifier_draws, draws_after, prover_draws, sent_proof}
use Rattle.magnetar_schedule.specs.Theorems.{DrawnAgain}
use Rattle.magnetar_protocol.proofs.SizeFacts.{cut}
use Rattle.magnetar_protocol.proofs.HonestParts.{segment-part, honest-length}
use Rattle.magnetar_schedule.proofs.Counts.{verifier-count, verifier-elements}
use Rattle.magnetar_schedule.proofs.Heard.{Says, schedule-same, play-same}
use Rattle.magnetar_schedule.proofs.Earlier.{first-say, words-say}

module _ (r : Relation) (b : Batch) (x : PublicColumns) (t : Transcript) where
  -- what a verifier draws who is given the honest proof at d
  abbrev again : List ℕ → List ℕ
  again d = verifier_draws r (prover_proof r b x d) t

  abbrev after : ℕ → List ℕ
  after n = draws_after r b x t n

  again-same : (n : ℕ) (d e : List ℕ) → Says r n (prover_proof r b x d) (prover_proof r b x e) → take (suc n) (again d) ≡ take (suc n) (again e)
  unfolding verifier_draws
  again-same n d e S =
      play-same n (prover_proof r b x d) (prover_proof r b x e) 0 (schedule r) (start t) refl (omega arith)
      (schedule-same n (prover_proof r b x d) (prover_proof r b x e) r S)

  again-count : (d : List ℕ) → length (again d) ≡ draw_count r
  again-count d = verifier-count r (prover_proof r b x d) t

  after-count : (n : ℕ) → length (after (suc n)) ≡ draw_count r
  unfolding draws_after
  after-count n = again-count (after n)

  -- ---- one more draw is right
  next : (n : ℕ) (e : List ℕ) → length e ≡ draw_count r → take n (after n) ≡ take n e → take (suc n) (after (suc n)) ≡ take (suc n) (again e)
  unfolding draws_after
  next zero e l h = again-same 0 [] e (first-say r b x [] e)
  next (suc n) e l h = again-same (suc n) (after (suc n)) e (words-say r b x (after (suc n)) e (after-count n) l (suc n) h)

  -- the first n stay
  stable : (n : ℕ) → take n (after n) ≡ take n (again (after n))
  unfolding draws_after
  stable zero = refl
  stable (suc n) = next n (after (suc n)) (after-count n) (stable n)

  -- and they are those of every list that is drawn again
  shown : (e : List ℕ) → again e ≡ e → (n : ℕ) → take n (after n) ≡ take n e
  shown e f zero = refl
  shown e f (suc n) = next n e (ap length (sym f) ∙ again-count e) (shown e f n) ∙ ap (take (suc n)) f

  -- ---- all of them
  pub prover-count : length (prover_draws r b x t) ≡ draw_count r
  unfolding prover_draws
  prover-count = some (draw_count r) (omega arith)
    where
      some : (n : ℕ) → 1 ≤ n → length (draws_after r b x t n) ≡ draw_count r
      some zero h = absurd (omega arith)
      some (suc n) h = after-count n

  whole : (l : List ℕ) → length l ≡ draw_count r → take (draw_count r) l ≡ l
  whole l e = take_all (draw_count r) l (omega arith)

  pub drawn-again : DrawnAgain r b x t
  unfolding sent_proof
  drawn-again = sym (whole (again (prover_draws r b x t)) (again-count (prover_draws r b x t))) ∙ sym stays ∙ whole (prover_draws r b x t) prover-count
    where
      stays : take (draw_count r) (prover_draws r b x t) ≡ take (draw_count r) (again (prover_draws r b x t))
      stays = unfold prover_draws in stable (draw_count r)

  pub drawn-only : (e : List ℕ) → verifier_draws r (prover_proof r b x e) t ≡ e → prover_draws r b x t ≡ e
  drawn-only e f = sym (whole (prover_draws r b x t) prover-count) ∙ begins ∙ whole e (ap length (sym f) ∙ again-count e)
    where
      begins : take (draw_count r) (prover_draws r b x t) ≡ take (draw_count r) e
      begins = unfold prover_draws in shown e f (draw_count r)

  pub prover-elements : Elements (prover_draws r b x t)
  prover-elements = subst Elements drawn-again (verifier-elements r (sent_proof r b x t) t)

  -- the words are as many as document 01 says
  pub sent-length : length (sent_proof r b x t) ≡ proof_elements r
  unfolding sent_proof prover_proof
  sent-length = honest-length r b x (draws_of r (prover_draws r b x t)) (cut r (prover_draws r b x t) prover-count)

  -- the claims that are read from the honest proof is the prover's, whatever the batch is
  pub prover-claims : claims r (prover_proof r b x (prover_draws r b x t)) (prover_draws r b x t) ≡ prover_claims r b (prover_draws r b x t)
  unfolding claims prover_claims prover_proof
  prover-claims = ap (λ (l : List ℕ). login_point (draws_of r (prover_draws r b x t)) ++ (low_point r (draws_of r (prover_draws r b x t)) ++ l))
      (segment-part r b x (draws_of r (prover_draws r b x t)) (cut r (prover_draws r b x t) prover-count))
