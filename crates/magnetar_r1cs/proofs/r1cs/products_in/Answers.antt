use mathlib.Core.Path.{◌≡◌, refl}
use Prim.Native.Nat.{ℕ, ◌*◌, ◌≤◌}
use native.Mathlib.Omega.{arith}
use lib.ListN.{length}
use Rattle.magnetar_layout.proofs.Passing.{late}
use Rattle.magnetar_layout.proofs.FirstRefusal.{done}
use Rattle.magnetar_layout.proofs.Room.{room-enough}
use Rattle.magnetar_layout.specs.Tests.{room_test}
use Rattle.magnetar_r1cs.specs.Entries.{logins_tests, range_refusal}
use Rattle.magnetar_r1cs.proofs.Ranges.{range-is}
use Rattle.magnetar_r1cs.proofs.r1cs.products_in.Goals as goal

pub returns-clause-products : goal.returns-clause-products
unfolding range_refusal
returns-clause-products g c =
    let x = c.args in
    let room : x.q * (2 * x.n) ≤ length x.out.now = grind arith in
    let e : ◌≡◌ {A = ℕ} 0 (range_refusal x.n x.packed.now x.x.now x.q x.w x.out.now) =
    late (logins_tests (length x.packed.now) (length x.x.now) x.q x.w x.n) (room_test (x.q * (2 * x.n)) x.out.now) c.in_ok-logins_refusal.ensures
    (room-enough (x.q * (2 * x.n)) x.out.now room) in
    rw (c.products.ensures, range-is (g.E.Entries.numbers x.es.now) x.a x.b x.n x.packed.now x.x.now x.q x.w) (done _ _ e refl)
