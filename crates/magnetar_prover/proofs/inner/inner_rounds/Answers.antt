use Prim.Native.Nat.{◌*◌, ◌+◌, ◌/◌, ℕ}
use Rattle.magnetar_field.specs.Words.{overlaid, words}
use Rattle.magnetar_hash.specs.declared.transcript.Transcript.{Transcript}
use Rattle.magnetar_schedule.specs.Stepwise.{Steps}
use Rattle.magnetar_layout.proofs.FirstRefusal.{done}
use Rattle.magnetar_prover.proofs.Entered.{entered, laid-over}
use Rattle.magnetar_prover.proofs.Guarded.{fitting, inner-fits, ready}
use lib.ListN.{length, take}
use lib.Seq.{length-take-le}
use mathlib.Core.Path.{◌∙◌, ◌≡◌, ap, ap₂, refl, sym}
use native.Mathlib.Omega.{arith}
use Rattle.magnetar_prover.proofs.inner.inner_rounds.Goals as goal

pub run-requires : goal.run-requires
run-requires c =
    let x = c.args in
    let f = inner-fits x.m x.lens.now x.proof.now x.draws.now x.s.now x.t (sym c.in_ok-of_inner.ensures) in
    let r = ready x.m x.lens.now c.log2-k.result c.log2-k.ensures.0 f.sizes in
    record {
      s_len = (grind (arith, fitting, r.double), r.some, r.most, r.rounds, r.few);
      draws_len = (grind (arith, fitting), f.sizes.segments, grind (arith, fitting), f.sizes.layout);
      w_value = (r.power, r.locals);
    }

pub returns : goal.returns
returns c =
    let x = c.args in
    let k = c.log2-k.ensures.0 in
    let e = c.in_ok-of_inner.ensures in
    let f = inner-fits x.m x.lens.now x.proof.now x.draws.now x.s.now x.t (sym e) in
    let r = ready x.m x.lens.now c.log2-k.result k f.sizes in
    let q = c.run.ensures.run ∙ entered x.m (x.m / 2) 1 1 1 c.log2-k.result x.lens.now x.s.now x.t k refl r.double r.locals in
    let l : length (take (6 * x.m) x.s.now) ≡ 6 * x.m = length-take-le _ _ f.scratch in
    record {
      answer =
          ap₂ (λ (n : ℕ) (u : Transcript). record { code = n; transcript = u }) e
          (ap (λ (p : Steps). p.run_state.transcript) q ∙ done _ x.t e refl);
      proof =
          laid-over c.run.new.proof x.proof.now _ (3 * c.log2-k.result + 1 + length x.lens.now) refl (grind (arith, fitting))
          (grind (arith, fitting)) (λ i. omega (arith, c.type_inv.proof i))
          ∙ (ap (λ (p : Steps). overlaid (words p.sent) x.proof.now) q ∙ done _ x.proof.now e refl);
      draws =
          laid-over c.run.new.draws x.draws.now _ c.log2-k.result refl (grind (arith, fitting)) (grind (arith, fitting))
          (λ i. omega (arith, c.type_inv.draws i))
          ∙ (ap (λ (p : Steps). overlaid (words p.run_state.draws) x.draws.now) q ∙ done _ x.draws.now e refl);
      scratch = rw (c.run.ensures.cleared, l) (done _ x.s.now e refl);
    }
