-- What is proved of the schedule, and of runs with their transcript: each statement is the type of the law that it names.
-- Source: document 01, "The run" (both halves of demand 3, for the draws of the transcript); document 02, U3 (a good batch needs no
-- separate premise on bits outside) and U6 (with every login's own public columns).
-- Assumes nothing.
use Rattle.std.specs.Prelude.{◌≡◌, ◌⊎◌, List, ℕ, ◌<◌, length}
use Rattle.magnetar_hash.specs.declared.transcript.Transcript.{Transcript}
use Rattle.magnetar_matrix.specs.Batch.{Relation, Batch, PublicColumns, NoBitOutside, Good}
use Rattle.magnetar_protocol.specs.Shape.{proof_elements}
use Rattle.magnetar_protocol.specs.Draws.{draw_count}
use Rattle.magnetar_protocol.specs.Run.{verdict, claims, ClaimsTrue}
use Rattle.magnetar_protocol.specs.RunSizes.{SizedRelation, SizedBatch, SizedPublic, Elements}
use Rattle.magnetar_protocol.specs.Soundness.{absorbed_before, BadDraw}
use Rattle.magnetar_schedule.specs.Schedule.{schedule, absorbed_until, InOrder}
use Rattle.magnetar_schedule.specs.RealRun.{verifier_draws, sent_proof, prover_draws, Agrees}

-- ---- the schedule
-- proofs/Absorbed `in_order`: the schedule absorbs the proof's elements in their order
abbrev pub AbsorbedInOrder : Relation → Type 0
AbsorbedInOrder r = InOrder 0 (schedule r)

-- proofs/Absorbed `absorbed-before`: before draw k it has absorbed exactly those that the list of draw k sees
abbrev pub AbsorbedBefore : Relation → Type 0
AbsorbedBefore r = (k : ℕ) → k < draw_count r → absorbed_until (schedule r) k ≡ absorbed_before r k

-- ---- a run with its transcript
-- proofs/RealRuns `soundness-run`: the first half, of the draws that the transcript gives
abbrev pub SoundnessRun : Type 0
SoundnessRun =
    (r : Relation) (b : Batch) (x : PublicColumns) (w : List ℕ) (t : Transcript)
    → SizedRelation r → SizedBatch r b → SizedPublic r x → length w ≡ proof_elements r → Elements w
    → verdict r x w (verifier_draws r w t) ≡ 0
    → NoBitOutside r b
    → ClaimsTrue r b (claims r w (verifier_draws r w t))
    → Good r b x ⊎ BadDraw r b x w (verifier_draws r w t)

-- proofs/RealRuns `completeness-run`: the second half, of a verifier who is given the prover's proof and the same transcript
abbrev pub CompletenessRun : Type 0
CompletenessRun =
    (r : Relation) (b : Batch) (x : PublicColumns) (t : Transcript)
    → SizedRelation r → SizedBatch r b → SizedPublic r x
    → Good r b x
    → Agrees r b x t

-- ---- the prover's draws
-- proofs/ProverDraws `drawn-again`: a verifier who is given the prover's proof draws what the prover drew
abbrev pub DrawnAgain : (r : Relation) (b : Batch) (x : PublicColumns) (t : Transcript) → Type 0
DrawnAgain r b x t = verifier_draws r (sent_proof r b x t) t ≡ prover_draws r b x t
