use Rattle.std.specs.Prelude.{ℕ, replicate}
use mathlib.Core.Path.{ap, ◌∙◌}
use native.Mathlib.Omega.{arith}
use Rattle.magnetar_matrix.proofs.TableLaws.{cleared-raised, elements-words}
use Rattle.magnetar_r1cs.proofs.Points.{eq-built}
use Rattle.magnetar_batch.proofs.fold.fold_halves.Goals as goal

pub returns : goal.returns
returns c =
    let built = c.build-done.ensures.table ∙ eq-built _ _ c.requires.point in record {
      out_after = cleared-raised _ c.args.out.now _ _ c.requires.out_len (omega arith) c.clear.ensures
          (rw (built, elements-words) at c.add_halves.ensures) (λ i. omega (arith, c.type_inv.out i));
      s_after = c.clear-2.ensures ∙ ap (λ (n : ℕ). replicate n 0) (omega arith);
    }
