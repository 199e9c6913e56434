use Prim.Native.Nat.{◌*◌, ◌+◌, ℕ}
use Rattle.magnetar_field.specs.Words.{elements}
use Rattle.magnetar_schedule.specs.Schedule.{numbered}
use Rattle.magnetar_prover.proofs.Segments.{each-done, each_more}
use Rattle.magnetar_prover.specs.Entries.{table_at}
use Rattle.magnetar_prover.specs.InScratch.{absorbed_one, sent_in, segment_in}
use lib.ListN.{length, take}
use mathlib.Core.List.{List, [], ◌++◌, ◌∷◌}
use mathlib.Core.Path.{◌∙◌, ap}
use native.Mathlib.Omega.{arith}
use Rattle.magnetar_prover.proofs.inner.send_segments.Goals as goal

pub loop-i-preserved : goal.loop-i-preserved
loop-i-preserved c = let l = c.loop-i in
    let x = c.args in
    let e = c.send_segment-u.ensures in
    let f = ap (λ (g : List ℕ). segment_in x.lens.now g (elements x.draws.now) l.i) l.invariant.0 in (
      e.kept ∙ l.invariant.0,
      each_more "vs-seg-" (segment_in x.lens.now (table_at 0 (2 * x.w) x.s.now) (elements x.draws.now)) (length x.lens.now) l.i
          x.k (sent_in x.k x.t x.proof.now) l.u c.send_segment-u.result l.proof c.send_segment-u.new.proof l.invariant.1 (omega arith)
          (e.transcript ∙ ap (absorbed_one l.u (numbered "vs-seg-" l.i)) f)
          (e.sent ∙ ap (λ (v : ℕ). take (x.k + l.i) (elements l.proof) ++ (v ∷ [])) f),
    )

pub returns : goal.returns
returns c = let l = c.loop-i in
    let x = c.args in
    each-done "vs-seg-" (segment_in x.lens.now (table_at 0 (2 * x.w) x.s.now) (elements x.draws.now)) (length x.lens.now) l.i
    x.k (sent_in x.k x.t x.proof.now) l.u l.proof l.invariant.1 (omega arith)
