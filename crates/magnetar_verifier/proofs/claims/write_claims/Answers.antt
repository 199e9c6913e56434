use mathlib.Core.Path.{◌≡◌, ◌∙◌}
use mathlib.Core.List.{◌++◌}
use Prim.Native.Nat.{ℕ, ◌*◌, ◌≤◌}
use native.Mathlib.Omega.{arith}
use borrow.Author.Tests.{eqb-true, leb-true}
use lib.ListN.{length, drop}
use lib.Seq.{length-take-le}
use Rattle.magnetar_field.specs.Words.{elements, words}
use Rattle.magnetar_field.specs.Number.{number_of}
use Rattle.magnetar_field.proofs.Elements.{words-elements}
use Rattle.magnetar_layout.specs.Tests.{or_refuse, room_test}
use Rattle.magnetar_layout.proofs.Passing.{passing, out-front, late, held, unchanged}
use Rattle.magnetar_protocol.specs.Shape.{claim_count, proof_elements, sizes_only}
use Rattle.magnetar_protocol.specs.Draws.{draw_count}
use Rattle.magnetar_protocol.specs.RunTests.{outline_tests, draw_tests, proof_tests}
use Rattle.magnetar_protocol.proofs.Guards.{outlined-given}
use Rattle.magnetar_verifier.specs.Claims.{claims_refusal, claims_out}
use Rattle.magnetar_verifier.proofs.ClaimLaws.{claims_later, claims-written}
use Rattle.magnetar_verifier.proofs.claims.write_claims.Goals as goal

pub returns-in_err-outline_refusal : goal.returns-in_err-outline_refusal
unfolding claims_refusal claims_out
returns-in_err-outline_refusal c =
    let x = c.args in
    let a = out-front (outline_tests x.m x.q x.rb x.rf x.lens.now)
    (claims_later x.m x.q x.rb x.rf x.lens.now x.proof.now x.draws.now x.claims.now) _ _ c.from_residual.ensures.1 c.in_err-outline_refusal.ensures in
    record { refusal = a; written = unchanged _ c.from_residual.result c.from_residual.ensures.0 a }

pub overflow_cast-l : goal.overflow_cast-l
overflow_cast-l c =
    let x = c.args in
    omega (arith, (outlined-given x.m x.q x.rb x.rf x.lens.now c.in_ok-outline_refusal.ensures).few)

pub returns-in_err-require : goal.returns-in_err-require
unfolding claims_refusal claims_out or_refuse
returns-in_err-require c =
    let x = c.args in
    let R = sizes_only x.m x.q x.rb x.rf x.lens.now in
    let d : c.draw_words.result ≡ 2 * draw_count R = rw c.of-r.ensures.rounds at c.draw_words.ensures in
    let a : number_of c.from_residual-in_err-require.result ≡ claims_refusal x.m x.q x.rb x.rf x.lens.now x.proof.now x.draws.now x.claims.now =
    late (outline_tests x.m x.q x.rb x.rf x.lens.now) (claims_later x.m x.q x.rb x.rf x.lens.now x.proof.now x.draws.now x.claims.now)
    c.in_ok-outline_refusal.ensures (grind (arith, passing)) in
    record { refusal = a; written = unchanged _ c.from_residual-in_err-require.result c.from_residual-in_err-require.ensures.0 a }

pub returns-in_err-require-2 : goal.returns-in_err-require-2
unfolding claims_refusal claims_out or_refuse
returns-in_err-require-2 c =
    let x = c.args in
    let R = sizes_only x.m x.q x.rb x.rf x.lens.now in
    let d : c.draw_words.result ≡ 2 * draw_count R = rw c.of-r.ensures.rounds at c.draw_words.ensures in
    let n : c.claim_words-need.result ≡ 2 * claim_count R = rw c.of-r.ensures.rounds at c.claim_words-need.ensures in
    let a : number_of c.from_residual-in_err-require-2.result ≡ claims_refusal x.m x.q x.rb x.rf x.lens.now x.proof.now x.draws.now x.claims.now =
    late (outline_tests x.m x.q x.rb x.rf x.lens.now) (claims_later x.m x.q x.rb x.rf x.lens.now x.proof.now x.draws.now x.claims.now)
    c.in_ok-outline_refusal.ensures
    (late (draw_tests R x.draws.now) (room_test (2 * claim_count R) x.claims.now ++ proof_tests R x.proof.now) (grind (arith, passing))
    (grind (arith, passing))) in
    record { refusal = a; written = unchanged _ c.from_residual-in_err-require-2.result c.from_residual-in_err-require-2.ensures.0 a }

pub returns-in_err-require-3 : goal.returns-in_err-require-3
unfolding claims_refusal claims_out or_refuse
returns-in_err-require-3 c =
    let x = c.args in
    let R = sizes_only x.m x.q x.rb x.rf x.lens.now in
    let d : c.draw_words.result ≡ 2 * draw_count R = rw c.of-r.ensures.rounds at c.draw_words.ensures in
    let n : c.claim_words-need.result ≡ 2 * claim_count R = rw c.of-r.ensures.rounds at c.claim_words-need.ensures in
    let p : c.proof_words.result ≡ 2 * proof_elements R = rw c.of-r.ensures.rounds at c.proof_words.ensures in
    let a : number_of c.from_residual-in_err-require-3.result ≡ claims_refusal x.m x.q x.rb x.rf x.lens.now x.proof.now x.draws.now x.claims.now =
    late (outline_tests x.m x.q x.rb x.rf x.lens.now) (claims_later x.m x.q x.rb x.rf x.lens.now x.proof.now x.draws.now x.claims.now)
    c.in_ok-outline_refusal.ensures
    (late (draw_tests R x.draws.now) (room_test (2 * claim_count R) x.claims.now ++ proof_tests R x.proof.now) (grind (arith, passing))
    (late (room_test (2 * claim_count R) x.claims.now) (proof_tests R x.proof.now) (grind (arith, passing)) (grind (arith, passing)))) in
    record { refusal = a; written = unchanged _ c.from_residual-in_err-require-3.result c.from_residual-in_err-require-3.ensures.0 a }

pub returns : goal.returns
unfolding claims_refusal or_refuse
returns c =
    let x = c.args in
    let R = sizes_only x.m x.q x.rb x.rf x.lens.now in
    let d : c.draw_words.result ≡ 2 * draw_count R = rw c.of-r.ensures.rounds at c.draw_words.ensures in
    let n : c.claim_words-need.result ≡ 2 * claim_count R = rw c.of-r.ensures.rounds at c.claim_words-need.ensures in
    let p : c.proof_words.result ≡ 2 * proof_elements R = rw c.of-r.ensures.rounds at c.proof_words.ensures in
    let a : ◌≡◌ {A = ℕ} 0 (claims_refusal x.m x.q x.rb x.rf x.lens.now x.proof.now x.draws.now x.claims.now) =
    late (outline_tests x.m x.q x.rb x.rf x.lens.now) (claims_later x.m x.q x.rb x.rf x.lens.now x.proof.now x.draws.now x.claims.now)
    c.in_ok-outline_refusal.ensures
    (late (draw_tests R x.draws.now) (room_test (2 * claim_count R) x.claims.now ++ proof_tests R x.proof.now) (grind (arith, passing))
    (late (room_test (2 * claim_count R) x.claims.now) (proof_tests R x.proof.now) (grind (arith, passing)) (grind (arith, passing)))) in
    let need = c.claim_words-need.result in
    let front = c.write_in.new.out in
    let fits : need ≤ length x.claims.now = leb-true _ _ (held _ _ _ c.in_ok-require-2.ensures) in
    let exact : length x.proof.now ≡ 2 * proof_elements R = eqb-true _ _ (held _ _ _ c.in_ok-require-3.ensures) ∙ p in
    let size : length front ≡ need = c.write_in.auto.out ∙ length-take-le need x.claims.now fits in
    let whole : words (elements front) ≡ front = words-elements front (drop need x.claims.now) (omega (arith, size, n))
    (λ i. omega (arith, c.type_inv.claims i)) in
    record {
      refusal = a;
      written = claims-written x.m x.q x.rb x.rf x.lens.now x.proof.now x.draws.now x.claims.now a front need n exact whole
          (rw c.of-r.ensures.rounds at c.write_in.ensures);
    }
