use mathlib.Core.Path.{◌≡◌, refl, sym, ap, ap₂, ◌∙◌}
use Prim.Native.Nat.{ℕ}
use native.Mathlib.Omega.{arith}
use lib.ListN.{length, take}
use Rattle.magnetar_field.specs.Words.{overlaid, words}
use Rattle.magnetar_hash.specs.declared.transcript.Transcript.{Transcript}
use Rattle.magnetar_schedule.specs.Stepwise.{Steps}
use Rattle.magnetar_layout.proofs.FirstRefusal.{done}
use Rattle.magnetar_prover.proofs.Entered.{laid-over}
use Rattle.magnetar_prover.proofs.OuterGuard.{fitting, outer-fits, blocks-lent}
use Rattle.magnetar_prover.proofs.OuterParts.{played-is}
use Rattle.magnetar_prover.specs.Entries.{block_words}
use Rattle.magnetar_prover.proofs.rounds.outer_rounds.Goals as goal

pub run-requires : goal.run-requires
run-requires c =
    let f = outer-fits c.args.q c.args.rb c.args.rf c.args.proof.now c.args.draws.now c.args.s.now c.args.t (sym c.in_ok-of_outer.ensures) in
    blocks-lent c.log2-l.ensures.0 c.log2-b.ensures.0 c.log2-f.ensures.0 c.table_words-wb.ensures c.table_words-wf.ensures
    (grind (arith, fitting)) (grind (arith, fitting)) (grind (arith, fitting)) f.totals

pub returns : goal.returns
returns c =
    let x = c.args in
    let e = c.in_ok-of_outer.ensures in
    let q = c.run.ensures.run
    ∙ played-is x.q x.rb x.rf c.log2-l.result c.log2-b.result c.log2-f.result c.table_words-wb.result c.table_words-wf.result
    c.block_words-e.result x.s.now x.t c.log2-l.ensures.0 c.log2-b.ensures.0 c.log2-f.ensures.0 c.table_words-wb.ensures
    c.table_words-wf.ensures c.block_words-e.ensures in
    let l : length (take c.block_words-e.result x.s.now) ≡ block_words x.q x.rb x.rf = grind (arith, fitting) in
    record {
      answer =
          ap₂ (λ (n : ℕ) (u : Transcript). record { code = n; transcript = u }) e
          (ap (λ (p : Steps). p.run_state.transcript) q ∙ done _ x.t e refl);
      proof =
          laid-over c.run.new.proof x.proof.now c.sent_words-a.result _ c.sent_words-a.ensures (grind (arith, fitting)) (grind (arith, fitting))
          (λ i. omega (arith, c.type_inv.proof i))
          ∙ (ap (λ (p : Steps). overlaid (words p.sent) x.proof.now) q ∙ done _ x.proof.now e refl);
      draws =
          laid-over c.run.new.draws x.draws.now c.drawn_words-d.result _ c.drawn_words-d.ensures (grind (arith, fitting)) (grind (arith, fitting))
          (λ i. omega (arith, c.type_inv.draws i))
          ∙ (ap (λ (p : Steps). overlaid (words p.run_state.draws) x.draws.now) q ∙ done _ x.draws.now e refl);
      scratch = rw (c.run.ensures.cleared, l, c.block_words-e.ensures) (done _ x.s.now e refl);
    }
