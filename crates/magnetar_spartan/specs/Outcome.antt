-- What both ends leave, refused or not: the number, the transcript and every lent word.
-- Source: document 01, "The run" and "Who can be turned back"; the Rust's `prove_virtual_spartan` and `verify_virtual_spartan`.
-- Assumes nothing.
use Rattle.std.specs.Prelude.{List, ◌++◌, ℕ, ◌/◌, length, drop, replicate}
use Rattle.magnetar_field.specs.Refusal.{unless_refused}
use Rattle.magnetar_field.specs.Words.{elements, words}
use Rattle.magnetar_field.specs.Number.{number_of}
use Rattle.magnetar_hash.specs.declared.transcript.Transcript.{Transcript}
use Rattle.magnetar_hash.specs.Transcript.{TranscriptAnswer}
use Rattle.magnetar_layout.specs.Tests.{first_refusal}
use Rattle.magnetar_matrix.specs.Batch.{Batch, PublicColumns}
use Rattle.magnetar_matrix.specs.Packed.{unpacked, public_of}
use Rattle.magnetar_protocol.specs.Run.{verdict, claims}
use Rattle.magnetar_protocol.specs.Prover.{prover_proof, prover_claims}
use Rattle.magnetar_schedule.specs.RealRun.{verifier_draws, verifier_transcript, prover_draws, prover_transcript}
use Rattle.magnetar_relation.specs.Rules.{Rules, relation_of}
use Rattle.magnetar_spartan.specs.declared.virtual_spartan.Verified.{Verified as Returned}
use Rattle.magnetar_spartan.specs.Refusals.{verify_tests, prove_tests, proof_words, claim_words, verifier_scratch_of, prover_scratch_of}

-- the batch that the packed words hold
abbrev pub batch_of : Rules → List ℕ → Batch
batch_of R ws = unpacked R.q (R.m / 2) ws

-- the public columns of each login that the public words hold
abbrev pub columns_of : Rules → List ℕ → PublicColumns
columns_of R x = public_of R.q (R.m / 2) x

-- ---- the verifier
-- the number, the transcript, and what the claims buffer and the scratch hold
pub record Verified : Type 0 where
  pub code : ℕ
  pub transcript : Transcript
  pub claims : List ℕ
  pub scratch : List ℕ

-- what the function returns, as an answer
abbrev pub answered : Returned → TranscriptAnswer
answered v = record { code = number_of v.outcome; transcript = v.transcript }

-- the same of such an answer
abbrev pub verified : TranscriptAnswer → List ℕ → List ℕ → Verified
verified a c s = record { code = a.code; transcript = a.transcript; claims = c; scratch = s }

-- and of a number, where the transcript is lent
abbrev pub verified_in_place : ℕ → Transcript → List ℕ → List ℕ → Verified
verified_in_place n t c s = record { code = n; transcript = t; claims = c; scratch = s }

-- the number of its refusal among 1 to 16, or 0
unfoldable pub verify_refusal : Rules → (x w : List ℕ) → Transcript → (c s : List ℕ) → ℕ
verify_refusal R x w t c s = first_refusal 0 (verify_tests R x w t.squeeze_ctr (length c) (length s))

-- the number among 21 to 29, or 0: the verdict at the draws of the transcript
unfoldable pub verify_verdict : Rules → (x w : List ℕ) → Transcript → ℕ
verify_verdict R x w t = verdict (relation_of R) (columns_of R x) (elements w) (verifier_draws (relation_of R) (elements w) t)

-- the claims buffer: the claims in front where the proof is accepted
unfoldable pub verify_claims : Rules → (x w : List ℕ) → Transcript → List ℕ → List ℕ
verify_claims R x w t c =
    unless_refused (verify_verdict R x w t)
    (words (claims (relation_of R) (elements w) (verifier_draws (relation_of R) (elements w) t)) ++ drop (claim_words R) c) c

-- the outcome of `verify_virtual_spartan`: public words x, proof words w, transcript t, claims c, scratch s
unfoldable pub verify_outcome : Rules → (x w : List ℕ) → Transcript → (c s : List ℕ) → Verified
verify_outcome R x w t c s = unless_refused (verify_refusal R x w t c s)
    (record {
      code = verify_verdict R x w t;
      transcript = verifier_transcript (relation_of R) (columns_of R x) (elements w) t;
      claims = verify_claims R x w t c;
      scratch = replicate (verifier_scratch_of R) 0 ++ drop (verifier_scratch_of R) s;
    })
    (record { code = verify_refusal R x w t c s; transcript = t; claims = c; scratch = s })

-- ---- the prover
-- the number, the transcript, and what the proof buffer, the claims buffer and the scratch hold
pub record Proved : Type 0 where
  pub code : ℕ
  pub transcript : Transcript
  pub proof : List ℕ
  pub claims : List ℕ
  pub scratch : List ℕ

-- the same of what the function returns, as an answer
abbrev pub proved : TranscriptAnswer → List ℕ → List ℕ → List ℕ → Proved
proved a w c s = record { code = a.code; transcript = a.transcript; proof = w; claims = c; scratch = s }

-- and of a number, where the transcript is lent
abbrev pub proved_in_place : ℕ → Transcript → List ℕ → List ℕ → List ℕ → Proved
proved_in_place n t w c s = record { code = n; transcript = t; proof = w; claims = c; scratch = s }

-- the draws of its run
unfoldable pub prove_draws : Rules → (ws x : List ℕ) → Transcript → List ℕ
prove_draws R ws x t = prover_draws (relation_of R) (batch_of R ws) (columns_of R x) t

-- the number of its refusal among 1 to 15, or 0
unfoldable pub prove_refusal : Rules → (ws x : List ℕ) → Transcript → (w c s : List ℕ) → ℕ
prove_refusal R ws x t w c s = first_refusal 0 (prove_tests R ws x t.squeeze_ctr (length w) (length c) (length s))

-- the outcome of `prove_virtual_spartan`: packed words ws, public words x, transcript t, proof w, claims c, scratch s
unfoldable pub prove_outcome : Rules → (ws x : List ℕ) → Transcript → (w c s : List ℕ) → Proved
prove_outcome R ws x t w c s =
    unless_refused (prove_refusal R ws x t w c s)
    (record {
      code = 0;
      transcript = prover_transcript (relation_of R) (batch_of R ws) (columns_of R x) t;
      proof = words (prover_proof (relation_of R) (batch_of R ws) (columns_of R x) (prove_draws R ws x t)) ++ drop (proof_words R) w;
      claims = words (prover_claims (relation_of R) (batch_of R ws) (prove_draws R ws x t)) ++ drop (claim_words R) c;
      scratch = replicate (prover_scratch_of R) 0 ++ drop (prover_scratch_of R) s;
    })
    (record { code = prove_refusal R ws x t w c s; transcript = t; proof = w; claims = c; scratch = s })
