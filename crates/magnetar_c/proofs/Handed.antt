-- An outcome and its theorem handed on: C's structs in the place of the answers of the crates below.
-- Assumes nothing.
use mathlib.Core.Path.{◌≡◌, refl, sym, ap, ◌∙◌, subst}
use mathlib.Core.List.{List}
use Prim.Native.Nat.{ℕ, ◌<◌, ◌^◌}
use lib.Pow.{low, high}
use Rattle.std.specs.Prelude.{Result, Ok, Err, IfOk, OnOk}
use Rattle.magnetar_field.specs.Gf128.{value}
use Rattle.magnetar_field.specs.Number.{number_of}
use Rattle.magnetar_field.specs.declared.gf128.Gf128.{Gf128}
use Rattle.magnetar_field.specs.declared.refusal.Refusal.{Refusal}
use Rattle.magnetar_hash.specs.Transcript.{TranscriptAnswer, answer_of}
use Rattle.magnetar_hash.specs.declared.transcript.Transcript.{Transcript}
use Rattle.magnetar_multilinear.specs.Entries.Answer.{element as found}
use Rattle.magnetar_relation.specs.Rules.{Rules}
use Rattle.magnetar_spartan.proofs.PassedTests.{some}
use Rattle.magnetar_spartan.specs.Outcome.{verified, verify_outcome, proved, prove_outcome}
use Rattle.magnetar_spartan.specs.Refusals.{verifier_scratch_of}
use Rattle.magnetar_spartan.specs.Theorems.{AcceptedCall, ProvedCall, WritesAtMost}
use Rattle.magnetar_c.specs.CStructs.{element, evaluated}
use Rattle.magnetar_c.specs.declared.across.MagnetarElement.{MagnetarElement}
use Rattle.magnetar_c.specs.declared.across.MagnetarValue.{MagnetarValue}

-- what holds on `Ok` holds where the number is 0
passed : (r : Result Unit Refusal) (P : Type 0) → OnOk r P → number_of r ≡ 0 → P
passed (Ok u) P h e = h
passed (Err y) P h e = absurd (some y e)

-- a verifier's outcome, of the answer r at the transcript t, is that of the answer b at the transcript u
pub verified-handed :
    (R : Rules) (x w c s : List ℕ) (r : Result Unit Refusal) {a b : TranscriptAnswer} {t u : Transcript} {c' s' : List ℕ} →
    b ≡ a →
    a.code ≡ number_of r →
    (verified a c' s' ≡ verify_outcome R x w t c s) × (WritesAtMost (verifier_scratch_of R) s s' × OnOk r (AcceptedCall R x w t c')) →
    t ≡ u →
    (verified b c' s' ≡ verify_outcome R x w u c s) × (WritesAtMost (verifier_scratch_of R) s s' × (b.code ≡ 0 → AcceptedCall R x w u c'))
verified-handed R x w c s r {a} {b} {t} {u} {c'} {s'} e k h f = (
  rw (e, ← f) h.0,
  (
    h.1.0,
    λ z. subst (λ (v : Transcript). AcceptedCall R x w v c') f
        (passed r (AcceptedCall R x w t c') h.1.1 (sym k ∙ (sym (ap (λ (y : TranscriptAnswer). y.code) e) ∙ z))),
  ),
)

-- the same of a prover's answer r
pub proved-handed :
    (R : Rules) (ws x w c s : List ℕ) (r : Result Transcript Refusal) {b : TranscriptAnswer} {t u : Transcript} {w' c' s' : List ℕ} →
    b ≡ answer_of u r →
    (proved (answer_of t r) w' c' s' ≡ prove_outcome R ws x t w c s) × IfOk r (λ v. ProvedCall R ws x t w' c' v) →
    t ≡ u →
    (proved b w' c' s' ≡ prove_outcome R ws x u w c s) × (b.code ≡ 0 → ProvedCall R ws x u w' c' b.transcript)
proved-handed R ws x w c s (Ok v) {b} {t} {u} {w'} {c'} e h f = (
  rw (e, ← f) h.0,
  λ z. rw (e, ← f) h.1,
)
proved-handed R ws x w c s (Err y) {b} {t} {u} {w'} {c'} e h f = (
  rw (e, ← f) h.0,
  λ z. absurd (some y (sym (ap (λ (a : TranscriptAnswer). a.code) e) ∙ z)),
)

-- the words of an element are those of its value
pub value-handed :
    (r : MagnetarElement) {e : Gf128} →
    e.lo < 2 ^ 64 →
    element r ≡ e →
    ◌≡◌ {A = MagnetarValue} (record { code = 0; element = r }) (evaluated (found (value e)))
unfolding evaluated
value-handed r l h =
    let k : r.lo < 2 ^ 64 = rw (ap (λ (g : Gf128). g.lo) h) l in
    rw (← h, low r.hi 64 k, high r.hi 64 k) refl
