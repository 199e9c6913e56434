use Prim.Native.Nat.{ℕ}
use lib.ListN.{replicate}
use mathlib.Core.Path.{◌≡◌, ap, ◌∙◌}
use lib.ListN.{length}
use Rattle.magnetar_matrix.proofs.TableLaws.{elements-words}
use Rattle.magnetar_r1cs.proofs.Points.{eq-built}
use borrow.Author.Rules.{rules}
use Rattle.magnetar_r1cs.proofs.r1cs.table_in.Goals as goal

pub returns : goal.returns
returns g c =
    let built = c.build-done.ensures.table ∙ eq-built _ _ c.requires.point in
    let same : length c.build-done.new.out ≡ length c.args.s.now = search rules in record {
      out_after = c.product.ensures ∙ rw (built, elements-words);
      s_after = c.clear.ensures ∙ ap (λ (n : ℕ). replicate n 0) same;
    }
