use mathlib.Core.List.{◌++◌}
use Prim.Native.Nat.{◌*◌}
use Rattle.magnetar_layout.specs.Tests.{matrix_column_tests, counted, placed}
use Rattle.magnetar_layout.proofs.Passing.{out-front, late, required}
use Rattle.magnetar_matrix.specs.Lent.{Lent}
use Rattle.magnetar_matrix.specs.Numbers.{lent_by}
use Rattle.magnetar_r1cs.proofs.r1cs.shape_refusal.Goals as goal

pub returns-in_err-require : goal.returns-in_err-require
returns-in_err-require g c =
    let x = c.args in
    let a : Lent = lent_by x.rows x.cols (g.E.Entries.numbers x.es.now) in
    out-front (matrix_column_tests (2 * x.w) x.cols) (counted a ++ placed a) _ _ c.from_residual.ensures.1 (required _ _ _ c.in_err-require.ensures)

pub returns : goal.returns
returns g c =
    let x = c.args in
    let a : Lent = lent_by x.rows x.cols (g.E.Entries.numbers x.es.now) in
    late (matrix_column_tests (2 * x.w) x.cols) (counted a ++ placed a) (required _ _ _ c.in_ok-require.ensures) c.entries.ensures
