use Prim.Native.Nat.{ℕ}
use Rattle.magnetar_field.specs.Gf128.{value}
use Rattle.magnetar_field.specs.Words.{elements}
use Rattle.magnetar_schedule.specs.Schedule.{numbered}
use Rattle.magnetar_prover.proofs.Sent.{drawn-more, one-absorbed}
use Rattle.magnetar_prover.specs.InScratch.{absorbed_one}
use lib.ListN.{take}
use mathlib.Core.List.{[], ◌++◌, ◌∷◌}
use mathlib.Core.Path.{◌∙◌, ap}
use native.Mathlib.Omega.{arith}
use Rattle.magnetar_prover.proofs.ends.send_terminal.Goals as goal

pub returns : goal.returns
returns c = let x = c.args in
    let v = c.get-v.ensures in record {
      transcript = one-absorbed (numbered "vs-terminal-" x.i) x.t c.terminal.result x.proof.now c.put.new.s x.p (value c.get-v.result) c.put.ensures
          (omega arith) c.terminal.ensures ∙ ap (absorbed_one x.t (numbered "vs-terminal-" x.i)) v;
      sent = drawn-more x.proof.now c.put.new.s x.p (value c.get-v.result) c.put.ensures (omega arith) ∙ ap (λ (e : ℕ). take x.p
          (elements x.proof.now) ++ (e ∷ [])) v;
    }
