use Prim.Native.Nat.{◌*◌, ℕ}
use Rattle.magnetar_field.specs.Gf128.{value}
use Rattle.magnetar_field.specs.Words.{elements}
use Rattle.magnetar_hash.specs.Bytes.{ascii}
use Rattle.magnetar_prover.proofs.Sent.{drawn-more, one-absorbed, table-first}
use Rattle.magnetar_prover.specs.InScratch.{absorbed_one}
use lib.ListN.{take}
use mathlib.Core.List.{[], ◌++◌, ◌∷◌}
use mathlib.Core.Path.{◌∙◌, ap, sym}
use native.Mathlib.Omega.{arith}
use Rattle.magnetar_prover.proofs.inner.send_z.Goals as goal

pub returns : goal.returns
returns c = let x = c.args in
    let v = c.get-z.ensures ∙ sym (table-first x.s.now (4 * x.w) (2 * x.w) 2 (omega arith) (omega arith)) in record {
      transcript = one-absorbed (ascii "vs-vz") x.t c.value_z.result x.proof.now c.put.new.s x.k
          (value c.get-z.result) c.put.ensures
          (omega arith) c.value_z.ensures ∙ ap (absorbed_one x.t (ascii "vs-vz")) v;
      sent = drawn-more x.proof.now c.put.new.s x.k (value c.get-z.result) c.put.ensures (omega arith) ∙ ap (λ (e : ℕ). take x.k
          (elements x.proof.now) ++ (e ∷ [])) v;
    }
