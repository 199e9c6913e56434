-- A round of the verifier that draws its challenge: it checks first, and only where the message is right it absorbs the message and
-- draws.
-- Source: the Rust's `round_capturing`; document 01, "Who can be turned back" (11 and 14).
-- Assumes nothing.
use Rattle.std.specs.Prelude.{Bool, false, not, cond, List, ℕ, ◌^◌, ltb, Result, Ok, Err}
use Rattle.magnetar_field.specs.declared.gf128.Gf128.{Gf128}
use Rattle.magnetar_field.specs.declared.refusal.Refusal.{Refusal}
use Rattle.magnetar_field.specs.Gf128.{value}
use Rattle.magnetar_field.specs.Number.{number}
use Rattle.magnetar_field.specs.Refusal.{refuse, unless_refused}
use Rattle.magnetar_field.specs.Words.{elements}
use Rattle.magnetar_hash.specs.declared.transcript.Transcript.{Transcript}
use Rattle.magnetar_hash.specs.Bytes.{word_bytes}
use Rattle.magnetar_hash.specs.Transcript.{absorbed, drawn, element, no_element}
use Rattle.magnetar_sumcheck_verifier.specs.Round.{holds, next_claim}
use Rattle.magnetar_sumcheck_verifier.specs.Outcome.{is_message}
use Rattle.magnetar_prover.specs.declared.capture.Captured.{Captured}

-- the transcript after the message's words m were absorbed and the challenge was drawn, both under the label
abbrev pub after_round : Transcript → List ℕ → List ℕ → Transcript
after_round t label m = drawn (absorbed t label (word_bytes m)) label

-- the transcript after a round with the running claim c
unfoldable pub next_transcript : Transcript → List ℕ → List ℕ → ℕ → Transcript
next_transcript t label m c = cond (holds (elements m) c) (after_round t label m) t

-- the challenge of the round
unfoldable pub next_challenge : Transcript → List ℕ → List ℕ → ℕ → Gf128
next_challenge t label m c = cond (holds (elements m) c) (element (after_round t label m)) no_element

-- ---- `round_capturing`: the message's words m, the running claim c, the transcript t and the label
-- the number of a refusal or 0, whether the message is right, the running claim after the round, the challenge and the transcript
pub record CaptureLeft : Type 0 where
  pub code : ℕ
  pub holds : Bool
  pub claim : ℕ
  pub challenge : Gf128
  pub transcript : Transcript

-- 11: the message is not of n coefficients; 14: the counter is 2^32 or more
unfoldable pub capture_refusal : ℕ → List ℕ → Transcript → ℕ
capture_refusal n m t = refuse 11 (not (is_message n m)) (refuse 14 (not (ltb t.squeeze_ctr (2 ^ 32))) 0)

-- nothing is drawn: claim and transcript stay
abbrev pub undrawn : ℕ → ℕ → Transcript → CaptureLeft
undrawn code c t = record { code = code; holds = false; claim = c; challenge = no_element; transcript = t }

-- what the function leaves; one that is refused leaves the running claim c and the transcript t
abbrev pub captured_by : ℕ → Transcript → Result Captured Refusal → CaptureLeft
captured_by c t (Ok o) = record { code = 0; holds = o.holds; claim = value o.claim; challenge = o.challenge; transcript = o.transcript }
captured_by c t (Err e) = undrawn (number e) c t

-- the challenge is drawn where the message is right
unfoldable pub capture_outcome : ℕ → List ℕ → ℕ → Transcript → List ℕ → CaptureLeft
capture_outcome n m c t label =
    unless_refused (capture_refusal n m t)
    (record {
      code = 0;
      holds = holds (elements m) c;
      claim = next_claim c (elements m) (value (next_challenge t label m c));
      challenge = next_challenge t label m c;
      transcript = next_transcript t label m c;
    })
    (undrawn (capture_refusal n m t) c t)
