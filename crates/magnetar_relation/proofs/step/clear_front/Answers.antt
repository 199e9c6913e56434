use borrow.Author.Tests.{lt-leb}
use mathlib.Core.Path.{sym}
use native.Mathlib.Omega.{arith}
use lib.Seq.{length-take-le}
use Prim.Native.Nat.{◌*◌}
use lib.ListN.{length}
use Rattle.magnetar_relation.specs.Steps.{cleared_to}
use Rattle.magnetar_relation.proofs.TableWords.{cleared-words}
use Rattle.magnetar_relation.proofs.step.clear_front.Goals as goal

pub slice_bounds-clear-end-then-n-out : goal.slice_bounds-clear-end-then-n-out
slice_bounds-clear-end-then-n-out c = sym (length-take-le _ _ (omega arith))

pub returns-then-n-out : goal.returns-then-n-out
returns-then-n-out c = cleared-words _ _ _ (omega arith) c.clear.ensures

pub returns-else-n-out : goal.returns-else-n-out
unfolding cleared_to
returns-else-n-out c =
    let x = c.args in
    rw (lt-leb (2 * x.n) (length x.out.now) (omega arith))
