use mathlib.Core.Path.{◌≡◌, refl}
use Prim.Native.Nat.{ℕ, ◌*◌, ◌≤◌}
use native.Mathlib.Omega.{arith}
use lib.ListN.{length}
use Rattle.magnetar_layout.proofs.Passing.{late}
use Rattle.magnetar_layout.proofs.FirstRefusal.{done}
use Rattle.magnetar_layout.proofs.Room.{room-enough}
use Rattle.magnetar_layout.specs.Tests.{batch_tests, room_test}
use Rattle.magnetar_matrix.specs.Matrix.{bit_valued}
use Rattle.magnetar_matrix.specs.Lent.{Lent, matrix_of}
use Rattle.magnetar_matrix.specs.Numbers.{lent_by}
use Rattle.magnetar_r1cs.specs.Entries.{packed_refusal}
use Rattle.magnetar_r1cs.proofs.Split.{packed-is}
use Rattle.magnetar_r1cs.proofs.r1cs.apply_simd_packed.Goals as goal

pub returns : goal.returns
unfolding bit_valued matrix_of packed_refusal
returns g c =
    let x = c.args in
    let a : Lent = lent_by x.rows x.cols (g.E.Entries.numbers x.es.now) in
    let room : x.q * (2 * x.rows) ≤ length x.out.now = grind arith in
    let e : ◌≡◌ {A = ℕ} 0 (packed_refusal a x.packed.now x.x.now x.q x.w x.out.now) =
    late (batch_tests a x.packed.now x.x.now x.q x.w) (room_test (x.q * (2 * x.rows)) x.out.now) c.in_ok-batch_refusal.ensures
    (room-enough (x.q * (2 * x.rows)) x.out.now room) in
    record {
      flag = rw (← e, c.all_bits_up_to.ensures);
      products = rw (c.products.ensures, packed-is a x.packed.now x.x.now x.q x.w) (done _ _ e refl);
    }
