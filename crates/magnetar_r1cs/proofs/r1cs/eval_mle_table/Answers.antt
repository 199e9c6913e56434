use mathlib.Core.Path.{◌≡◌, refl, sym, ◌∙◌}
use mathlib.Core.List.{◌++◌}
use Prim.Native.Nat.{ℕ, ◌*◌, ◌≤◌}
use native.Mathlib.Omega.{arith}
use lib.ListN.{length}
use lib.Seq.{length-take-le}
use Rattle.magnetar_field.specs.Sizes.{log₂}
use Rattle.magnetar_layout.specs.Tests.{Tests, lone_tests, length_test, room_test}
use Rattle.magnetar_layout.proofs.Passing.{late, required}
use Rattle.magnetar_layout.proofs.FirstRefusal.{done}
use Rattle.magnetar_layout.proofs.Room.{room-enough}
use Rattle.magnetar_matrix.specs.Matrix.{mle_table, times, times_at, transpose}
use Rattle.magnetar_matrix.specs.Lent.{Lent, matrix_of}
use Rattle.magnetar_matrix.specs.Numbers.{lent_by}
use Rattle.magnetar_matrix.proofs.TableLaws.{in-front}
use Rattle.magnetar_matrix.proofs.Walked.{entries-swapped}
use Rattle.magnetar_r1cs.specs.Entries.{table_refusal}
use Rattle.magnetar_r1cs.proofs.Lone.{lone}
use Rattle.magnetar_r1cs.proofs.Points.{point-of}
use Rattle.magnetar_r1cs.proofs.r1cs.eval_mle_table.Goals as goal

pub table_in-requires-clause-point : goal.table_in-requires-clause-point
table_in-requires-clause-point g c =
    let x = c.args in
    let a : Lent = lent_by x.rows x.cols (g.E.Entries.numbers x.es.now) in
    let m = lone a (sym c.in_ok-lone.ensures) in
    let long : length x.point.now ≡ 2 * log₂ x.rows = grind arith in
    let room : 2 * x.rows ≤ length x.scratch.now = grind arith in
    point-of _ _ _ _ m.rows_size long (length-take-le _ _ room)

pub returns-clause-table : goal.returns-clause-table
unfolding table_refusal mle_table times times_at transpose matrix_of
returns-clause-table g c =
    let x = c.args in
    let a : Lent = lent_by x.rows x.cols (g.E.Entries.numbers x.es.now) in
    let out : 2 * x.cols ≤ length x.out.now = grind arith in
    let room : 2 * x.rows ≤ length x.scratch.now = grind arith in
    let o : Tests = room_test (2 * x.cols) x.out.now in
    let s : Tests = room_test (2 * x.rows) x.scratch.now in
    let e : ◌≡◌ {A = ℕ} 0 (table_refusal a x.point.now x.out.now x.scratch.now) =
    late (lone_tests a) (length_test (2 * log₂ x.rows) x.point.now ++ (o ++ s)) c.in_ok-lone.ensures
    (late (length_test (2 * log₂ x.rows) x.point.now) (o ++ s) (required _ _ _ (rw c.log2.ensures.0 at c.in_ok-require.ensures))
    (late o s (room-enough (2 * x.cols) x.out.now out) (room-enough (2 * x.rows) x.scratch.now room))) in
    in-front _ x.cols x.out.now _ out c.table_in.ensures.out_after ∙ rw entries-swapped (done _ _ e refl)
