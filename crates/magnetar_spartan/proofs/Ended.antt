-- The outcomes of both ends: refused, or run through.
-- Assumes nothing.
use mathlib.Core.Path.{◌≡◌, refl}
use mathlib.Core.List.{List, ◌++◌}
use Prim.Native.Nat.{ℕ, ◌-◌, ◌*◌, ◌/◌, ◌^◌, ◌≤◌, ◌<◌}
use lib.Pow.{pow_mono}
use native.Mathlib.Nat.{lt_of_not-le}
use native.Mathlib.Omega.{arith}
use lib.ListN.{length}
use borrow.Author.Tests.{ne_eqb, eqb-true, ltb-true, ltb-false, not-false}
use Rattle.magnetar_field.specs.Sizes.{log₂}
use Rattle.magnetar_hash.specs.declared.transcript.Transcript.{Transcript}
use Rattle.magnetar_layout.specs.Login.{login_words}
use Rattle.magnetar_layout.specs.Tests.{Tests, first_refusal, Sized, size_tests, layout_tests, room_test_of}
use Rattle.magnetar_layout.proofs.FirstRefusal.{Clear, first-refusal-clear}
use Rattle.magnetar_r1cs.proofs.Points.{log-most}
use Rattle.magnetar_protocol.specs.Draws.{draw_count}
use Rattle.magnetar_relation.specs.Rules.{Rules}
use Rattle.magnetar_relation.specs.RuleTests.{rule_tests}
use Rattle.magnetar_protocol.specs.RunTests.{counter_tests, proof_tests}
use Rattle.magnetar_spartan.specs.Refusals.{rows_bin, rows_fld, sizes_only_of, rules_tests, proof_words, claim_words, verifier_scratch_of}
use Rattle.magnetar_spartan.specs.Refusals.{prover_scratch_of, verify_tests, prove_tests}
use Rattle.magnetar_spartan.specs.ValidRules.{ValidRules}
use Rattle.magnetar_spartan.specs.Proving.{ValidRun}
use Rattle.magnetar_spartan.specs.Outcome.{verified, verify_refusal, verify_outcome}
use Rattle.magnetar_spartan.proofs.PassedTests.{clear-front, clear-back}
use Rattle.magnetar_spartan.proofs.SizedRules.{rules-numbered, ready}

-- ---- what is left where no test is bad
pub record Verifiable (R : Rules) (x w : List ℕ) (n c s : ℕ) : Type 0 where
  pub passed : Clear (rule_tests R)
  pub ready : ValidRules R
  pub public : length x ≡ R.q * (R.m - 2)
  pub claims : claim_words R ≤ c
  pub scratch : verifier_scratch_of R ≤ s
  pub proof : length w ≡ proof_words R
  pub counter : n < 2 ^ 32

-- the rules among other tests
rules-ready : (R : Rules) (rest : Tests) → Clear (size_tests R.m R.q) → Clear (rules_tests R ++ rest) → ValidRules R
rules-ready R rest a c =
    let l = layout_tests (R.m / 2) R.lengths in
    let b = clear-front (rules_tests R) rest c in
    ready R a (clear-front (rule_tests R) l b) (clear-back (rule_tests R) l b)

pub verifiable : (R : Rules) (x w : List ℕ) (n c s : ℕ) → first_refusal 0 (verify_tests R x w n c s) ≡ 0 → Verifiable R x w n c s
verifiable R x w n c s e =
    let k = (first-refusal-clear 0 (verify_tests R x w n c s) (rules-numbered R _ refl) e).1 in
    let rest : Tests = counter_tests n ++ (room_test_of (claim_words R) c ++ (room_test_of (verifier_scratch_of R) s ++ proof_tests (sizes_only_of R) w)) in
    let b = clear-back (rules_tests R) rest k.1.1.1 in
    record {
      passed = clear-front (rule_tests R) (layout_tests (R.m / 2) R.lengths) (clear-front (rules_tests R) rest k.1.1.1);
      ready = rules-ready R rest (k.0, (k.1.0, tt)) k.1.1.1;
      public = eqb-true (length x) (R.q * (R.m - 2)) (not-false _ k.1.1.0);
      claims = ltb-false c (claim_words R) b.1.0;
      scratch = ltb-false s (verifier_scratch_of R) b.1.1.0;
      proof = eqb-true (length w) (proof_words R) (not-false _ b.1.1.1.0);
      counter = ltb-true n (2 ^ 32) (not-false _ b.0);
    }

-- at most 4096 logins have at most 12 variables
pub log-few : {n : ℕ} → Sized 1 4096 n → log₂ n ≤ 12
log-few {n} z = below (log₂ n) (rw (← z.power) z.high)
  where
    below : (k : ℕ) → 2 ^ k ≤ 4096 → k ≤ 12
    below k h = let b : k < 13 = lt_of_not-le (λ l. omega (arith, h, pow_mono {i = 13} {j = k} l)) in omega arith

-- as many draws as fit the room for them
pub draws-small : (R : Rules) → ValidRules R → 2 * draw_count (sizes_only_of R) ≤ 256
draws-small R P =
    let q = log-few P.logins in
    let m = log-most R.m P.columns.high P.columns.power in
    let b = log-most (rows_bin R) P.bin.rows.high P.bin.rows.power in
    let f = log-most (rows_fld R) P.fld.rows.high P.fld.rows.power in
    omega (arith, q, m, b, f)

module _ (R : Rules) (x w : List ℕ) (t : Transcript) (c s : List ℕ) where
  pub verify-refused : (z : ℕ) → z ≡ verify_refusal R x w t c s → (z ≡ 0 → ⊥)
      → verified (record { code = z; transcript = t }) c s ≡ verify_outcome R x w t c s
  unfolding verify_outcome
  verify-refused z e h = rw (← e, ne_eqb z 0 h)

-- ---- the prover: packed words ws and public words x, so many words of proof, claims and scratch, and the counter n
pub provable : (R : Rules) (ws x : List ℕ) (n w c s : ℕ) → first_refusal 0 (prove_tests R ws x n w c s) ≡ 0 → ValidRun R (length ws) (length x) w c s n
provable R ws x n w c s e =
    let k = (first-refusal-clear 0 (prove_tests R ws x n w c s) (rules-numbered R _ refl) e).1 in
    let rest : Tests = counter_tests n ++ (room_test_of (proof_words R) w ++ (room_test_of (claim_words R) c ++ room_test_of (prover_scratch_of R) s)) in
    let b = clear-back (rules_tests R) rest k.1.1.1.1 in
    record {
      ready = rules-ready R rest (k.0, (k.1.0, tt)) k.1.1.1.1;
      packed = eqb-true (length ws) (R.q * login_words (R.m / 2)) (not-false _ k.1.1.0);
      public = eqb-true (length x) (R.q * (R.m - 2)) (not-false _ k.1.1.1.0);
      proof = ltb-false w (proof_words R) b.1.0;
      claims = ltb-false c (claim_words R) b.1.1.0;
      scratch = ltb-false s (prover_scratch_of R) b.1.1.1.0;
      counter = ltb-true n (2 ^ 32) (not-false _ b.0);
    }
