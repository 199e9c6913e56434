use borrow.Author.Tests.{lt-leb}
use mathlib.Core.Path.{sym, ap, ◌∙◌}
use native.Mathlib.Omega.{arith}
use lib.Seq.{length-take-le}
use Prim.Native.Nat.{◌*◌}
use lib.ListN.{length}
use Rattle.magnetar_field.specs.Words.{elements}
use Rattle.magnetar_matrix.proofs.TableLaws.{added-in}
use Rattle.magnetar_relation.specs.Steps.{added_to}
use Rattle.magnetar_relation.proofs.TableWords.{added-words}
use Rattle.magnetar_relation.proofs.step.add_to.Goals as goal

pub slice_bounds-add_at-end-then-n-out : goal.slice_bounds-add_at-end-then-n-out
slice_bounds-add_at-end-then-n-out c = sym (length-take-le _ _ (omega arith))

pub returns-then-n-out : goal.returns-then-n-out
returns-then-n-out c =
    added-words _ _ _ _ _ (omega arith) c.add_at.auto.out (ap elements c.add_at.ensures ∙ added-in _ _ _)
    (λ i. omega (arith, c.type_inv.out i))

pub returns-else-n-out : goal.returns-else-n-out
unfolding added_to
returns-else-n-out c =
    let x = c.args in
    rw (lt-leb (2 * x.n) (length x.out.now) (omega arith))
