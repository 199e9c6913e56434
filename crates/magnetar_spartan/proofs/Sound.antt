-- What an accepted call of the verifier says of the batch: the theorem on an accepted run, for any draws and of the function's own outcome.
-- Assumes nothing.
use mathlib.Core.Path.{◌≡◌, refl, sym, ap, ◌∙◌, subst}
use mathlib.Core.Bool.{Bool, true, false}
use mathlib.Core.List.{List, ◌++◌}
use Prim.Native.Nat.{ℕ, ◌+◌, ◌*◌}
use native.Mathlib.Omega.{arith}
use lib.Dec.{eqb}
use lib.ListN.{length, take, drop, length-drop}
use lib.Seq.{take_at}
use borrow.Author.Tests.{eqb-true}
use Rattle.magnetar_field.specs.Words.{elements, words}
use Rattle.magnetar_field.proofs.Elements.{elements-length, elements-below, words-length}
use Rattle.magnetar_hash.specs.declared.transcript.Transcript.{Transcript}
use Rattle.magnetar_matrix.proofs.TableLaws.{elements-words}
use Rattle.magnetar_protocol.specs.Shape.{before_end, proof_elements}
use Rattle.magnetar_protocol.specs.Proof.{segment_values}
use Rattle.magnetar_protocol.specs.Draws.{draws_of}
use Rattle.magnetar_protocol.specs.Run.{claims, ClaimsTrue}
use Rattle.magnetar_protocol.specs.RunSizes.{SizedRelation, Elements}
use Rattle.magnetar_schedule.specs.RealRun.{verifier_draws}
use Rattle.magnetar_protocol.proofs.SizeFacts.{cut}
use Rattle.magnetar_protocol.proofs.ClaimParts.{claims-length}
use Rattle.magnetar_schedule.proofs.Counts.{verifier-count, verifier-elements}
use Rattle.magnetar_protocol.proofs.Soundness.{soundness}
use Rattle.magnetar_relation.specs.Rules.{Rules, relation_of}
use Rattle.magnetar_spartan.proofs.SizedRules.{sized-columns}
use Rattle.magnetar_spartan.specs.Refusals.{claim_words}
use Rattle.magnetar_spartan.specs.Outcome.{Verified, verify_refusal, verify_verdict, verify_claims, verify_outcome, columns_of}
use Rattle.magnetar_spartan.specs.Theorems.{AreWords, AcceptedCall, SoundAny}
use Rattle.magnetar_spartan.proofs.Ended.{Verifiable, verifiable}

-- two words are an element
pub word-elements : (l : List ℕ) → AreWords l → Elements (elements l)
word-elements l h = elements-below l (λ i. omega (arith, h i))

-- the words at the front
pub front : (v r : List ℕ) (n : ℕ) → n ≡ 2 * length v → take n (words v ++ r) ≡ words v
front v r n h = take_at (words v) r n (words-length v ∙ sym h)

module _ (R : Rules) (x w : List ℕ) (t : Transcript) (c s : List ℕ) (none : verify_refusal R x w t c s ≡ 0) where
  fits : Verifiable R x w t.squeeze_ctr (length c) (length s)
  fits = verifiable R x w t.squeeze_ctr (length c) (length s) (unfold verify_refusal in none)

  relation : SizedRelation (relation_of R)
  relation = fits.ready

  as_many : length (elements w) ≡ proof_elements (relation_of R)
  as_many = elements-length w ∙ omega (arith, fits.proof)

pub verify-sound-any : SoundAny
verify-sound-any R x w t c s none wx ww b d B many below =
    let f = fits R x w t c s none in
    soundness (relation_of R) b (columns_of R x) (elements w) d (record {
      run = record {
        relation = f.ready;
        batch = B;
        public = sized-columns R f.ready x f.public wx;
        draws = many;
        elements_d = below;
      };
      words = as_many R x w t c s none;
      elements_w = word-elements w ww;
    })

module _ (R : Rules) (x w : List ℕ) (t : Transcript) (c s : List ℕ) (e : (verify_outcome R x w t c s).code ≡ 0) where
  -- nothing refused it before its checks
  not-refused : verify_refusal R x w t c s ≡ 0
  unfolding verify_outcome
  not-refused = go (eqb (verify_refusal R x w t c s) 0) refl
    where
      go : (b : Bool) → eqb (verify_refusal R x w t c s) 0 ≡ b → verify_refusal R x w t c s ≡ 0
      go true h = eqb-true (verify_refusal R x w t c s) 0 h
      go false h = rw h at e

  passed : verify_verdict R x w t ≡ 0
  unfolding verify_outcome
  passed = rw not-refused at e

  -- the claims at the front of the claims buffer
  pub claims-size : claim_words R ≡ 2 * length (claims (relation_of R) (elements w) (verifier_draws (relation_of R) (elements w) t))
  unfolding claims segment_values
  claims-size = omega (
    arith,
    claims-length (relation_of R) (relation R x w t c s not-refused) (draws_of (relation_of R) (verifier_draws (relation_of R) (elements w) t))
        (cut (relation_of R) (verifier_draws (relation_of R) (elements w) t) (verifier-count (relation_of R) (elements w) t))
        (drop (before_end (relation_of R) + 1) (elements w)),
    length-drop (before_end (relation_of R) + 1) (elements w),
    as_many R x w t c s not-refused,
  )

  pub returned-words : take (claim_words R) (verify_outcome R x w t c s).claims
      ≡ words (claims (relation_of R) (elements w) (verifier_draws (relation_of R) (elements w) t))
  unfolding verify_outcome verify_claims
  returned-words =
      rw (not-refused, passed) (front (claims (relation_of R) (elements w) (verifier_draws (relation_of R) (elements w) t)) (drop (claim_words R) c)
      (claim_words R) claims-size)

  pub returned : elements (take (claim_words R) (verify_outcome R x w t c s).claims)
      ≡ claims (relation_of R) (elements w) (verifier_draws (relation_of R) (elements w) t)
  returned = ap elements returned-words ∙ elements-words (claims (relation_of R) (elements w) (verifier_draws (relation_of R) (elements w) t))

  -- the case of the draws that the transcript gives
  verify-sound : AreWords x → AreWords w → AcceptedCall R x w t (verify_outcome R x w t c s).claims
  verify-sound wx ww b B outside ct =
      verify-sound-any R x w t c s not-refused wx ww b (verifier_draws (relation_of R) (elements w) t) B
      (verifier-count (relation_of R) (elements w) t) (verifier-elements (relation_of R) (elements w) t)
      (unfold verify_verdict in passed) outside (subst (ClaimsTrue (relation_of R) b) returned ct)

-- the same of what the function leaves
pub accepted-call : (R : Rules) (x w : List ℕ) (t : Transcript) (c s : List ℕ) (o : Verified) → AreWords x → AreWords w
    → o ≡ verify_outcome R x w t c s → o.code ≡ 0 → AcceptedCall R x w t o.claims
accepted-call R x w t c s o wx ww e z =
    subst (λ (v : Verified). AcceptedCall R x w t v.claims) (sym e)
    (verify-sound R x w t c s (ap (λ (v : Verified). v.code) (sym e) ∙ z) wx ww)
