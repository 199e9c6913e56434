use mathlib.Core.Path.{◌≡◌, sym, ◌∙◌}
use mathlib.Core.List.{◌++◌}
use Prim.Native.Nat.{ℕ, ◌+◌, ◌*◌, ◌≤◌}
use native.Mathlib.Omega.{arith}
use lib.ListN.{length, length-drop}
use lib.Seq.{length-take-le}
use Rattle.magnetar_field.specs.Sizes.{log₂}
use Rattle.magnetar_layout.specs.Tests.{Tests, lone_tests, length_test, room_test}
use Rattle.magnetar_layout.proofs.Passing.{late, required}
use Rattle.magnetar_layout.proofs.FirstRefusal.{found}
use Rattle.magnetar_layout.proofs.Room.{room-enough}
use Rattle.magnetar_matrix.specs.Matrix.{mle_at}
use Rattle.magnetar_matrix.specs.Lent.{Lent, matrix_of}
use Rattle.magnetar_matrix.specs.Numbers.{lent_by}
use Rattle.magnetar_r1cs.specs.Inside.{inside}
use Rattle.magnetar_r1cs.specs.Entries.{at_refusal}
use Rattle.magnetar_r1cs.proofs.Lone.{lone, inside_wider, sum-ext}
use Rattle.magnetar_r1cs.proofs.Points.{point-of, point-size, cross-is}
use Rattle.magnetar_r1cs.proofs.r1cs.eval_mle_at.Goals as goal

pub sum_in-requires : goal.sum_in-requires
sum_in-requires g c =
    let x = c.args in
    let a : Lent = lent_by x.rows x.cols (g.E.Entries.numbers x.es.now) in
    let m = lone a (sym c.in_ok-lone.ensures) in
    let row-point : length x.r.now ≡ 2 * log₂ x.rows = grind arith in
    let col-point : length x.c.now ≡ 2 * log₂ x.cols = grind arith in
    let room : 2 * (x.rows + x.cols) ≤ length x.scratch.now = grind arith in
    let l = length-take-le (2 * (x.rows + x.cols)) x.scratch.now room in
    record {
      n_bound = (m.rows_size.high, inside_wider _ _ _ _ _ m.rows_size.high m.cols_size.high m.entries.inside, omega (arith, l));
      point = point-of _ _ _ _ m.rows_size row-point (length-take-le _ _ (omega (arith, l)));
      point_2 = point-of _ _ _ _ m.cols_size col-point (rw (length-drop, l) (omega arith));
    }

pub returns-clause-value : goal.returns-clause-value
unfolding at_refusal mle_at matrix_of
returns-clause-value g c =
    let x = c.args in
    let a : Lent = lent_by x.rows x.cols (g.E.Entries.numbers x.es.now) in
    let m = lone a (sym c.in_ok-lone.ensures) in
    let row-point : length x.r.now ≡ 2 * log₂ x.rows = grind arith in
    let col-point : length x.c.now ≡ 2 * log₂ x.cols = grind arith in
    let room : 2 * (x.rows + x.cols) ≤ length x.scratch.now = grind arith in
    let r : Tests = length_test (2 * log₂ x.rows) x.r.now in
    let k : Tests = length_test (2 * log₂ x.cols) x.c.now in
    let s : Tests = room_test (2 * (x.rows + x.cols)) x.scratch.now in
    let e : ◌≡◌ {A = ℕ} 0 (at_refusal a x.r.now x.c.now x.scratch.now) =
    late (lone_tests a) (r ++ (k ++ s)) c.in_ok-lone.ensures
    (late r (k ++ s) (required _ _ _ (rw c.log2.ensures.0 at c.in_ok-require.ensures))
    (late k s (required _ _ _ (rw c.log2-2.ensures.0 at c.in_ok-require-2.ensures)) (room-enough (2 * (x.rows + x.cols)) x.scratch.now room))) in
    let at = cross-is _ _ _ _ (point-size _ _ _ m.rows_size row-point) (point-size _ _ _ m.cols_size col-point) in
    found _ _ e (c.sum_in.ensures.result_value ∙ sum-ext (inside x.rows x.cols) _ _ _ m.entries.inside at)
