-- The two theorems on both entries, as their contracts say them, and the laws beside them.
-- Source: document 01, "The run" (both halves of demand 3); document 02, U3 (a good batch needs no separate premise on bits outside; an
-- accepted proof keeps it) and U8 (the number of scratch words that a run may write).
-- Assumes nothing.
use Rattle.std.specs.Prelude.{◌≡◌, ◌⊎◌, List, ℕ, ◌^◌, ◌≤◌, length, take, drop, replicate}
use Rattle.magnetar_field.specs.Words.{elements}
use Rattle.magnetar_hash.specs.declared.transcript.Transcript.{Transcript}
use Rattle.magnetar_matrix.specs.Batch.{Batch, NoBitOutside, Good}
use Rattle.magnetar_matrix.specs.Packed.{public_words, public_of}
use Rattle.magnetar_protocol.specs.EqualColumns.{equal_columns}
use Rattle.magnetar_protocol.specs.Prover.{joined}
use Rattle.magnetar_protocol.specs.Draws.{draw_count}
use Rattle.magnetar_protocol.specs.Run.{claims, verdict, ClaimsTrue}
use Rattle.magnetar_protocol.specs.RunSizes.{SizedBatch, EachBelow, Elements}
use Rattle.magnetar_protocol.specs.Soundness.{BadDraw}
use Rattle.magnetar_schedule.specs.RealRun.{verifier_draws}
use Rattle.magnetar_relation.specs.Rules.{Rules, relation_of}
use Rattle.magnetar_spartan.specs.Refusals.{claim_words, proof_words, verifier_scratch_of}
use Rattle.magnetar_spartan.specs.Outcome.{batch_of, columns_of, verify_refusal, verify_outcome, prove_refusal, prove_outcome}

-- every number is a word
abbrev pub AreWords : List ℕ → Type 0
AreWords l = EachBelow (2 ^ 64) l

-- ---- an accepted call
-- What an answer of 0 of the verifier says, for public words x, proof words w, transcript t and the claims buffer c at exit: of every batch
-- of the right sizes with no bit set outside the segments, of which the claims are true: it is good, or some draw of the transcript
-- lies in its list of at most three.
abbrev pub AcceptedCall : Rules → (x w : List ℕ) → Transcript → (c : List ℕ) → Type 0
AcceptedCall R x w t c = (b : Batch) → SizedBatch (relation_of R) b → NoBitOutside (relation_of R) b
    → ClaimsTrue (relation_of R) b (elements (take (claim_words R) c))
    → Good (relation_of R) b (columns_of R x) ⊎ BadDraw (relation_of R) b (columns_of R x) (elements w) (verifier_draws (relation_of R) (elements w) t)

-- ---- a proved call
-- Given the proof in front of the words w, the same rules, public words and transcript t, and the buffers c' and s' of its own, the verifier
-- accepts; it writes the claims in front of the words c, all of them true of the batch; and it ends with the transcript u.
pub record AcceptedBy (R : Rules) (ws x : List ℕ) (t : Transcript) (w c : List ℕ) (u : Transcript) (c' s' : List ℕ) : Type 0 where
  pub accepted : (verify_outcome R x (take (proof_words R) w) t c' s').code ≡ 0
  pub same_claims : take (claim_words R) (verify_outcome R x (take (proof_words R) w) t c' s').claims ≡ take (claim_words R) c
  pub true_claims : ClaimsTrue (relation_of R) (batch_of R ws) (elements (take (claim_words R) c))
  pub same_transcript : (verify_outcome R x (take (proof_words R) w) t c' s').transcript ≡ u

-- What an answer of 0 of the prover says, for packed words ws, public words x, transcript t, and the proof buffer w, the claims buffer c and
-- the transcript u at exit: where the batch is good, every verifier with room enough accepts.
abbrev pub ProvedCall : Rules → (ws x : List ℕ) → Transcript → (w c : List ℕ) → Transcript → Type 0
ProvedCall R ws x t w c u = Good (relation_of R) (batch_of R ws) (columns_of R x) → (c' s' : List ℕ)
    → claim_words R ≤ length c' → verifier_scratch_of R ≤ length s' → AcceptedBy R ws x t w c u c' s'

-- ---- what a verifying run writes
-- Of the words s, which become s', at most the first n are written.
abbrev pub WritesAtMost : (n : ℕ) → (s s' : List ℕ) → Type 0
WritesAtMost n s s' = (length s' ≡ length s) × (drop n s' ≡ drop n s)

-- ---- laws beside them
-- For any draws (proofs/Sound `verify-sound-any`): wherever the verifier refuses by none of 1 to 16, whatever elements d stand in the place of
-- the draws, an accepted call says the same of them.
abbrev pub SoundAny : Type 0
SoundAny =
    (R : Rules) (x w : List ℕ) (t : Transcript) (c s : List ℕ) → verify_refusal R x w t c s ≡ 0 → AreWords x → AreWords w
    → (b : Batch) (d : List ℕ) → SizedBatch (relation_of R) b → length d ≡ draw_count (relation_of R) → Elements d
    → verdict (relation_of R) (columns_of R x) (elements w) d ≡ 0 → NoBitOutside (relation_of R) b
    → ClaimsTrue (relation_of R) b (claims (relation_of R) (elements w) d)
    → Good (relation_of R) b (columns_of R x) ⊎ BadDraw (relation_of R) b (columns_of R x) (elements w) d

-- Of any batch, good or not (proofs/Complete `verify-unrefused`): a verifier with room enough refuses by none of 1 to 16 what the prover has
-- written.
abbrev pub Unrefused : Type 0
Unrefused =
    (R : Rules) (ws x : List ℕ) (t : Transcript) (w c s c' s' : List ℕ) → AreWords x → prove_refusal R ws x t w c s ≡ 0
    → claim_words R ≤ length c' → verifier_scratch_of R ≤ length s'
    → verify_refusal R x (take (proof_words R) (prove_outcome R ws x t w c s).proof) t c' s' ≡ 0

-- Of the verifier's scratch (proofs/ScratchBound `scratch-bound`): whatever is lent and whatever the outcome, it writes at most its formula's words.
-- R are the rules in either form.
abbrev pub ScratchBound : Type 0
ScratchBound =
    (R : Rules) (x w : List ℕ) (t : Transcript) (c s : List ℕ) → WritesAtMost (verifier_scratch_of R) s (verify_outcome R x w t c s).scratch

-- Of public columns that all logins share (proofs/EqualWords `equal_words`): the public words of one login, lent once for each of q logins, hold
-- equal columns. What a call says then is what `magnetar_protocol` specs/EqualColumns says of them.
abbrev pub EqualWords : Type 0
EqualWords = (q w : ℕ) (x : List ℕ) → length x ≡ public_words w → public_of q w (joined (replicate q x)) ≡ equal_columns q (elements x)
