-- How the digest ends.
-- Assumes nothing.
use Rattle.std.specs.Prelude.{Result}
use Rattle.std.specs.Result.{IsErrAnd}
use Rattle.std.proofs.Common.{◌≡◌, ℕ, List, length, arith, ne_eqb}
use Rattle.std.proofs.lemmas.Result.{err_from_is_err_and}
use Rattle.magnetar_field.specs.declared.refusal.Refusal.{Refusal}
use Rattle.magnetar_field.specs.Number.{number}
use Rattle.magnetar_hash.specs.Sponge.{finished, within}
use Rattle.magnetar_hash.specs.declared.hasher.Sponge.{Sponge}
use Rattle.magnetar_hash.specs.Parts.{DigestAnswer, hash_answer_of}
use Rattle.magnetar_layout.proofs.Refused.{number-positive}
use Rattle.magnetar_relation.specs.Rules.{Rules}
use Rattle.magnetar_digest.specs.Digest.{entry_numbers, digest_refusal, digest_answer}
use Rattle.magnetar_digest.specs.Feeding.{each_fed, head_fed}
use Rattle.magnetar_digest.proofs.FedLaws.{digested}

-- a refused relation has no digest
pub digest-refused : (R : Rules) (r : Result (List ℕ) Refusal) (e : Refusal) → IsErrAnd r (λ y. y ≡ e) → number e ≡ digest_refusal R
    → hash_answer_of r ≡ digest_answer R
unfolding digest_answer
digest-refused R r e h f =
    let p = err_from_is_err_and r h in
    let n = number-positive e in
    rw (p.1, p.2, ← f, ne_eqb (number e) 0 (λ z. omega arith))

-- what was fed is the digest of one that is not refused
pub digest-ends : (R : Rules) (n : ℕ) (s t : Sponge) (d : List ℕ) → 0 ≡ digest_refusal R → n ≡ length R.entries
    → s ≡ head_fed R.m R.q R.lengths R.shapes n → t ≡ each_fed entry_numbers R.entries s → d ≡ finished (within t)
    → ◌≡◌ {A = DigestAnswer} (record { code = 0; digest = d }) (digest_answer R)
unfolding digest_answer
digest-ends R n s t d z en es et ed = rw (← z, ed, digested R n s t en es et)

pub ruleset ends = (digest-ends)
