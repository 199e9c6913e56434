use Prim.Native.Nat.{ℕ}
use Rattle.magnetar_field.specs.Gf128.{value}
use Rattle.magnetar_field.specs.Words.{elements}
use Rattle.magnetar_schedule.specs.Schedule.{numbered}
use Rattle.magnetar_prover.proofs.Sent.{drawn-more, one-absorbed}
use Rattle.magnetar_prover.specs.InScratch.{absorbed_one}
use lib.ListN.{take}
use mathlib.Core.List.{[], ◌++◌, ◌∷◌}
use mathlib.Core.Path.{◌∙◌, ap}
use native.Mathlib.Omega.{arith}
use Rattle.magnetar_prover.proofs.inner.send_segment.Goals as goal

pub returns : goal.returns
returns c = let x = c.args in
    let v = c.segment_value-v.ensures.value in record {
      transcript = one-absorbed (numbered "vs-seg-" x.i) x.t c.segment.result x.proof.now c.put.new.s
          x.p (value c.segment_value-v.result) c.put.ensures (omega arith) c.segment.ensures ∙ ap (absorbed_one x.t (numbered "vs-seg-" x.i)) v;
      sent = drawn-more x.proof.now c.put.new.s x.p (value c.segment_value-v.result) c.put.ensures (omega arith)
          ∙ ap (λ (e : ℕ). take x.p (elements x.proof.now) ++ (e ∷ [])) v;
      kept = c.segment_value-v.ensures.kept;
    }
