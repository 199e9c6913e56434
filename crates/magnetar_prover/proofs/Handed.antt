-- What an entry hands back where a `?` hands out its refusal.
-- Assumes nothing.
use Rattle.std.specs.Prelude.{◌≡◌, Result}
use Rattle.std.specs.Result.{IsErrAnd}
use Rattle.std.proofs.lemmas.Result.{err_from_is_err_and}
use Rattle.magnetar_field.specs.declared.refusal.Refusal.{Refusal}
use Rattle.magnetar_field.specs.Number.{number}
use Rattle.magnetar_layout.proofs.Refused.{number-positive}
use Rattle.magnetar_hash.specs.declared.transcript.Transcript.{Transcript}
use Rattle.magnetar_hash.specs.Transcript.{answer_of}

pub answer-handed : (t : Transcript) (r : Result Transcript Refusal) (e : Refusal) → IsErrAnd r (λ y. y ≡ e)
    → answer_of t r ≡ record { code = number e; transcript = t }
answer-handed t r e h = let p = err_from_is_err_and r h in rw (p.1, p.2)

pub ruleset handed_back = (answer-handed, number-positive)
