use mathlib.Core.Path.{sym}
use mathlib.Core.List.{◌++◌}
use Prim.Native.Nat.{◌*◌}
use lib.ListN.{length}
use Rattle.magnetar_layout.specs.Tests.{matrix_column_tests, counted, placed}
use Rattle.magnetar_layout.proofs.Passing.{out-front, late}
use Rattle.magnetar_matrix.specs.Lent.{Lent}
use Rattle.magnetar_matrix.specs.Numbers.{lent_by}
use Rattle.magnetar_r1cs.specs.Entries.{logins_tests}
use Rattle.magnetar_r1cs.proofs.Lone.{logins-clear}
use Rattle.magnetar_r1cs.proofs.r1cs.batch_refusal.Goals as goal

pub returns-in_err-logins_refusal : goal.returns-in_err-logins_refusal
returns-in_err-logins_refusal g c =
    let x = c.args in
    let a : Lent = lent_by x.rows x.cols (g.E.Entries.numbers x.es.now) in
    out-front (logins_tests (length x.packed.now) (length x.x.now) x.q x.w x.rows) (matrix_column_tests (2 * x.w) x.cols ++ (counted a ++ placed a)) _ _
    c.from_residual.ensures.1 c.in_err-logins_refusal.ensures

pub shape_refusal-requires : goal.shape_refusal-requires
shape_refusal-requires g c =
    let x = c.args in (logins-clear (length x.packed.now) (length x.x.now) x.q x.w x.rows (sym c.in_ok-logins_refusal.ensures)).half

pub returns : goal.returns
returns g c =
    let x = c.args in
    let a : Lent = lent_by x.rows x.cols (g.E.Entries.numbers x.es.now) in
    late (logins_tests (length x.packed.now) (length x.x.now) x.q x.w x.rows) (matrix_column_tests (2 * x.w) x.cols ++ (counted a ++ placed a))
    c.in_ok-logins_refusal.ensures c.shape_refusal.ensures
