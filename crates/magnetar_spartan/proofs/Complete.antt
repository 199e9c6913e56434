-- What the two ends leave of a good batch: the theorem on a good batch, of the outcomes of both functions.
-- Assumes nothing.
use mathlib.Core.Path.{◌≡◌, refl, sym, ap, ◌∙◌, subst}
use mathlib.Core.Bool.{Bool, true, false}
use mathlib.Core.List.{List, [], ◌++◌}
use Prim.Native.Nat.{ℕ, ◌*◌, ◌/◌, ◌<◌, ◌≤◌}
use native.Mathlib.Omega.{arith}
use lib.Dec.{ltb, eqb}
use lib.ListN.{length, get_or, take, drop}
use borrow.Author.Tests.{ltb-true, ltb-false, le-ltb, eqb-true}
use Rattle.magnetar_field.specs.Words.{elements, words}
use Rattle.magnetar_field.proofs.Elements.{words-length}
use Rattle.magnetar_field.proofs.Tabulation.{tabulate-length, tabulate-get, tabulate-out}
use Rattle.magnetar_hash.specs.declared.transcript.Transcript.{Transcript}
use Rattle.magnetar_layout.specs.Tests.{Tests, room_test_of}
use Rattle.magnetar_layout.proofs.FirstRefusal.{first-refusal-clear}
use Rattle.magnetar_matrix.specs.Batch.{Relation, Batch, Good, bit_of}
use Rattle.magnetar_matrix.specs.Packed.{packed_bit, login_part, unpacked}
use Rattle.magnetar_matrix.proofs.TableLaws.{elements-words}
use Rattle.magnetar_matrix.proofs.LoginParts.{bit-unpacked}
use Rattle.magnetar_protocol.specs.Run.{claims, verdict, ClaimsTrue}
use Rattle.magnetar_protocol.specs.RunSizes.{SizedRelation, SizedBatch, SizedPublic}
use Rattle.magnetar_protocol.specs.Prover.{prover_proof, prover_claims}
use Rattle.magnetar_schedule.specs.RealRun.{verifier_draws, verifier_transcript, prover_draws, prover_transcript, sent_proof, Agrees}
use Rattle.magnetar_schedule.proofs.ProverDraws.{sent-length}
use Rattle.magnetar_schedule.proofs.RealRuns.{completeness-run}
use Rattle.magnetar_relation.specs.Rules.{Rules, relation_of}
use Rattle.magnetar_protocol.specs.RunTests.{counter_tests, proof_tests}
use Rattle.magnetar_spartan.specs.Refusals.{rules_tests, claim_words, proof_words, verifier_scratch_of, prover_scratch_of, verify_tests, prove_tests}
use Rattle.magnetar_spartan.specs.Refusals.{sizes_only_of}
use Rattle.magnetar_spartan.specs.Outcome.{Proved, batch_of, verify_refusal, verify_verdict, verify_outcome, prove_refusal, prove_draws}
use Rattle.magnetar_spartan.specs.Outcome.{prove_outcome, columns_of}
use Rattle.magnetar_spartan.specs.Proving.{ValidRun}
use Rattle.magnetar_spartan.specs.Theorems.{AreWords, AcceptedBy, ProvedCall, Unrefused}
use Rattle.magnetar_spartan.proofs.SizedRules.{rules-numbered, sized-columns}
use Rattle.magnetar_spartan.proofs.Ended.{provable}
use Rattle.magnetar_spartan.proofs.PassedTests.{first-refusal-none, clear-front, clear-back, clear-join, same-passes}
use Rattle.magnetar_spartan.proofs.Sound.{front, claims-size, returned-words, returned}

-- ---- packed words hold a batch of the relation's sizes
packed-bit : (ws : List ℕ) (y : ℕ) → packed_bit ws y < 2
unfolding packed_bit
packed-bit ws y = omega arith

module _ (q w : ℕ) (ws : List ℕ) where
  many : length (unpacked q w ws) ≡ q
  unfolding unpacked
  many = tabulate-length _ q

  wide : (u : ℕ) → u < q → length (get_or (unpacked q w ws) u []) ≡ w
  unfolding unpacked
  wide u h = ap length (tabulate-get _ q u [] h) ∙ tabulate-length _ w

  no-login : (u y : ℕ) → q ≤ u → bit_of (unpacked q w ws) u y ≡ 0
  unfolding unpacked bit_of
  no-login u y h = ap (λ (l : List ℕ). get_or l y 0) (tabulate-out _ q u [] h)

  no-column : (u y : ℕ) → u < q → w ≤ y → bit_of (unpacked q w ws) u y ≡ 0
  unfolding unpacked bit_of
  no-column u y h k = ap (λ (l : List ℕ). get_or l y 0) (tabulate-get _ q u [] h) ∙ tabulate-out _ w y 0 k

  bits_below : (u y : ℕ) → bit_of (unpacked q w ws) u y < 2
  bits_below u y = go (ltb u q) (ltb y w) refl refl
    where
      go : (a b : Bool) → ltb u q ≡ a → ltb y w ≡ b → bit_of (unpacked q w ws) u y < 2
      go true true h k = rw (bit-unpacked q w ws u y (ltb-true u q h) (ltb-true y w k)) (packed-bit (login_part w ws u) y)
      go true false h k = rw (no-column u y (ltb-true u q h) (ltb-false y w k)) (omega arith)
      go false b h k = rw (no-login u y (ltb-false u q h)) (omega arith)

pub sized-batch : (R : Rules) (ws : List ℕ) → SizedBatch (relation_of R) (batch_of R ws)
sized-batch R ws = record { logins = many R.q (R.m / 2) ws; columns = wide R.q (R.m / 2) ws; bits = bits_below R.q (R.m / 2) ws }

module _ (R : Rules) (ws x : List ℕ) (t : Transcript) (w c s : List ℕ) where
  abbrev handed : List ℕ
  handed = take (proof_words R) (prove_outcome R ws x t w c s).proof

  abbrev sent : List ℕ
  sent = sent_proof (relation_of R) (batch_of R ws) (columns_of R x) t

  handed-is : prove_refusal R ws x t w c s ≡ 0 → proof_words R ≡ 2 * length sent → handed ≡ words sent
  unfolding prove_outcome prove_draws sent_proof
  handed-is hp h =
      rw hp (front (prover_proof (relation_of R) (batch_of R ws) (columns_of R x) (prover_draws (relation_of R) (batch_of R ws) (columns_of R x) t))
      (drop (proof_words R) w) (proof_words R) h)

  accepted-of : (p c' s' : List ℕ) → verify_refusal R x p t c' s' ≡ 0 → elements p ≡ sent
      → verdict (relation_of R) (columns_of R x) sent (verifier_draws (relation_of R) sent t) ≡ 0 → (verify_outcome R x p t c' s').code ≡ 0
  unfolding verify_outcome verify_verdict
  accepted-of p c' s' hv e a = rw (hv, e) a

  transcripts : (p c' s' : List ℕ) → verify_refusal R x p t c' s' ≡ 0 → elements p ≡ sent → prove_refusal R ws x t w c s ≡ 0
      → verifier_transcript (relation_of R) (columns_of R x) sent t ≡ prover_transcript (relation_of R) (batch_of R ws) (columns_of R x) t
      → (verify_outcome R x p t c' s').transcript ≡ (prove_outcome R ws x t w c s).transcript
  unfolding verify_outcome prove_outcome
  transcripts p c' s' hv e hp a = rw (hv, hp, e) a

  claims-handed : prove_refusal R ws x t w c s ≡ 0
      → claim_words R ≡ 2 * length (prover_claims (relation_of R) (batch_of R ws) (prover_draws (relation_of R) (batch_of R ws) (columns_of R x) t))
      → take (claim_words R) (prove_outcome R ws x t w c s).claims ≡ words
      (prover_claims (relation_of R) (batch_of R ws) (prover_draws (relation_of R) (batch_of R ws) (columns_of R x) t))
  unfolding prove_outcome prove_draws
  claims-handed hp h =
      rw hp (front (prover_claims (relation_of R) (batch_of R ws) (prover_draws (relation_of R) (batch_of R ws) (columns_of R x) t))
      (drop (claim_words R) c) (claim_words R) h)

  -- the verifier's tests 1 to 14 are among the prover's, and its 15 and 16 are these three
  unrefused : (p c' s' : List ℕ) → prove_refusal R ws x t w c s ≡ 0 → claim_words R ≤ length c' → verifier_scratch_of R ≤ length s'
      → length p ≡ proof_words R → verify_refusal R x p t c' s' ≡ 0
  unfolding prove_refusal verify_refusal
  unrefused p c' s' hp hc hs hw =
      let n = t.squeeze_ctr in
      let k = (first-refusal-clear 0 (prove_tests R ws x n (length w) (length c) (length s)) (rules-numbered R _ refl) hp).1 in
      let rest : Tests = counter_tests n ++ (room_test_of (proof_words R) (length w) ++
      (room_test_of (claim_words R) (length c) ++ room_test_of (prover_scratch_of R) (length s))) in
      let others : Tests = counter_tests n ++ (room_test_of (claim_words R) (length c') ++
      (room_test_of (verifier_scratch_of R) (length s') ++ proof_tests (sizes_only_of R) p)) in
      let rules = clear-front (rules_tests R) rest k.1.1.1.1 in
      let counter = (clear-back (rules_tests R) rest k.1.1.1.1).0 in
      first-refusal-none (verify_tests R x p n (length c') (length s')) (
        k.0,
        (
          k.1.0,
          (
            k.1.1.1.0,
            clear-join (rules_tests R) others rules (
              counter,
              (
                le-ltb (length c') (claim_words R) hc,
                (le-ltb (length s') (verifier_scratch_of R) hs, (same-passes (length p) (proof_words R) hw, tt)),
              ),
            ),
          ),
        ),
      )

  -- the words of the proof are those that the prover sent, as many as a proof has
  module _ (wx : AreWords x) (hp : prove_refusal R ws x t w c s ≡ 0) where
    able : ValidRun R (length ws) (length x) (length w) (length c) (length s) t.squeeze_ctr
    able = provable R ws x t.squeeze_ctr (length w) (length c) (length s) (unfold prove_refusal in hp)

    relation : SizedRelation (relation_of R)
    relation = able.ready

    public : SizedPublic (relation_of R) (columns_of R x)
    public = sized-columns R able.ready x able.public wx

    size : proof_words R ≡ 2 * length sent
    size = ap (λ (n : ℕ). 2 * n) (sym (sent-length (relation_of R) (batch_of R ws) (columns_of R x) t))

    written : length handed ≡ proof_words R
    written = ap length (handed-is hp size) ∙ words-length sent ∙ sym size

  -- wherever neither end is refused by 1 to 16
  verify-complete : (c' s' : List ℕ) → AreWords x → prove_refusal R ws x t w c s ≡ 0 → verify_refusal R x handed t c' s' ≡ 0
      → Good (relation_of R) (batch_of R ws) (columns_of R x)
      → let o = prove_outcome R ws x t w c s in AcceptedBy R ws x t o.proof o.claims o.transcript c' s'
  verify-complete c' s' wx hp hv good =
      record { accepted = accepted; same_claims = same; true_claims = subst (ClaimsTrue r b) held agrees.true_claims; same_transcript = ends }
    where
      r : Relation
      r = relation_of R

      b : Batch
      b = batch_of R ws

      agrees : Agrees r b (columns_of R x) t
      agrees = completeness-run r b (columns_of R x) t (relation wx hp) (sized-batch R ws) (public wx hp) good

      given : elements handed ≡ sent
      given = ap elements (handed-is hp (size wx hp)) ∙ elements-words sent

      accepted : (verify_outcome R x handed t c' s').code ≡ 0
      accepted = accepted-of handed c' s' hv given agrees.accepted

      claims-given : claims r (elements handed) (verifier_draws r (elements handed) t) ≡ claims r sent (verifier_draws r sent t)
      claims-given = ap (λ (l : List ℕ). claims r l (verifier_draws r l t)) given

      verifier-claims : claims r (elements handed) (verifier_draws r (elements handed) t) ≡ prover_claims r b (prover_draws r b (columns_of R x) t)
      verifier-claims = claims-given ∙ agrees.same_claims

      same : take (claim_words R) (verify_outcome R x handed t c' s').claims ≡ take (claim_words R) (prove_outcome R ws x t w c s).claims
      same =
          returned-words R x handed t c' s' accepted ∙ ap words verifier-claims
          ∙ sym (claims-handed hp (claims-size R x handed t c' s' accepted ∙ ap (λ (l : List ℕ). 2 * length l) verifier-claims))

      held : claims r sent (verifier_draws r sent t) ≡ elements (take (claim_words R) (prove_outcome R ws x t w c s).claims)
      held = sym (sym (ap elements same) ∙ returned R x handed t c' s' accepted ∙ claims-given)

      ends : (verify_outcome R x handed t c' s').transcript ≡ (prove_outcome R ws x t w c s).transcript
      ends = transcripts handed c' s' hv given hp agrees.same_transcript

pub verify-unrefused : Unrefused
verify-unrefused R ws x t w c s c' s' wx hp hc hs = unrefused R ws x t w c s _ c' s' hp hc hs (written R ws x t w c s wx hp)

-- a call that is refused answers its number
not-refused : (R : Rules) (ws x : List ℕ) (t : Transcript) (w c s : List ℕ) → (prove_outcome R ws x t w c s).code ≡ 0
    → prove_refusal R ws x t w c s ≡ 0
unfolding prove_outcome
not-refused R ws x t w c s e = go (eqb (prove_refusal R ws x t w c s) 0) refl
  where
    go : (b : Bool) → eqb (prove_refusal R ws x t w c s) 0 ≡ b → prove_refusal R ws x t w c s ≡ 0
    go true h = eqb-true (prove_refusal R ws x t w c s) 0 h
    go false h = rw h at e

-- the theorem, of what the function leaves
pub proved-call : (R : Rules) (ws x : List ℕ) (t : Transcript) (w c s : List ℕ) (o : Proved) → AreWords x
    → o ≡ prove_outcome R ws x t w c s → o.code ≡ 0 → ProvedCall R ws x t o.proof o.claims o.transcript
proved-call R ws x t w c s o wx e z good c' s' hc hs =
    let none : prove_refusal R ws x t w c s ≡ 0 = not-refused R ws x t w c s (ap (λ (p : Proved). p.code) (sym e) ∙ z) in
    subst (λ (p : Proved). AcceptedBy R ws x t p.proof p.claims p.transcript c' s') (sym e)
    (verify-complete R ws x t w c s c' s' wx none (verify-unrefused R ws x t w c s c' s' wx none hc hs) good)
