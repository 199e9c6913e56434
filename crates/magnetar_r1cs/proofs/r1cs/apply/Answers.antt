use mathlib.Core.Path.{◌≡◌, refl, ◌∙◌}
use mathlib.Core.List.{◌++◌}
use Prim.Native.Nat.{ℕ, ◌*◌, ◌≤◌}
use native.Mathlib.Omega.{arith}
use lib.ListN.{length}
use Rattle.magnetar_layout.specs.Tests.{lone_tests, length_test, room_test}
use Rattle.magnetar_layout.proofs.Passing.{late, required}
use Rattle.magnetar_layout.proofs.FirstRefusal.{done}
use Rattle.magnetar_layout.proofs.Room.{room-enough}
use Rattle.magnetar_matrix.specs.Matrix.{times, times_at}
use Rattle.magnetar_matrix.specs.Lent.{Lent, matrix_of}
use Rattle.magnetar_matrix.specs.Numbers.{lent_by}
use Rattle.magnetar_matrix.proofs.TableLaws.{in-front}
use Rattle.magnetar_r1cs.specs.Entries.{apply_refusal}
use Rattle.magnetar_r1cs.proofs.r1cs.apply.Goals as goal

pub returns-clause-product : goal.returns-clause-product
unfolding apply_refusal times times_at matrix_of
returns-clause-product g c =
    let x = c.args in
    let a : Lent = lent_by x.rows x.cols (g.E.Entries.numbers x.es.now) in
    let room : 2 * x.rows ≤ length x.out.now = grind arith in
    let e : ◌≡◌ {A = ℕ} 0 (apply_refusal a x.z.now x.out.now) =
    late (lone_tests a) (length_test (2 * x.cols) x.z.now ++ room_test (2 * x.rows) x.out.now) c.in_ok-lone.ensures
    (late (length_test (2 * x.cols) x.z.now) (room_test (2 * x.rows) x.out.now) (required _ _ _ c.in_ok-require.ensures)
    (room-enough (2 * x.rows) x.out.now room)) in
    in-front _ x.rows x.out.now _ room c.product.ensures ∙ done _ _ e refl
