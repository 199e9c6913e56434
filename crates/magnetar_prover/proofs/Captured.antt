-- A round that draws its challenge, where a `?` hands out its refusal.
-- Assumes nothing.
use Rattle.std.specs.Prelude.{◌≡◌, ℕ, Result}
use Rattle.std.specs.Result.{IsErrAnd}
use Rattle.std.proofs.lemmas.Result.{err_from_is_err_and}
use Rattle.magnetar_field.specs.declared.refusal.Refusal.{Refusal}
use Rattle.magnetar_field.specs.Number.{number}
use Rattle.magnetar_layout.proofs.Refused.{number-positive}
use Rattle.magnetar_hash.specs.declared.transcript.Transcript.{Transcript}
use Rattle.magnetar_prover.specs.declared.capture.Captured.{Captured}
use Rattle.magnetar_prover.specs.Capture.{captured_by, undrawn}

pub captured-handed : (c : ℕ) (t : Transcript) (r : Result Captured Refusal) (e : Refusal) → IsErrAnd r (λ y. y ≡ e)
    → captured_by c t r ≡ undrawn (number e) c t
captured-handed c t r e h = let p = err_from_is_err_and r h in rw (p.1, p.2)

pub ruleset capturing = (captured-handed, number-positive)
