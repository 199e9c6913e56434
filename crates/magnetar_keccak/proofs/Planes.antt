-- A state that is written plane by plane.
-- Assumes nothing.
use mathlib.Core.Path.{◌≡◌}
use mathlib.Core.List.{List}
use Prim.Native.Nat.{ℕ, ◌+◌, ◌*◌, ◌<◌}
use native.Mathlib.Omega.{arith}
use lib.ListN.{length, get_or, set}
use Rattle.magnetar_field.proofs.Tabulation.{tabulate-get}
use Rattle.magnetar_keccak.specs.State.{lane}
use Rattle.magnetar_keccak.specs.Planes.{plane}
use Rattle.magnetar_keccak.proofs.Written.{Written, written-more}

pub written-lane
    : (s b p : List ℕ) (y x : ℕ)
    → Written s b (5 * y + x)
    → length s ≡ 25
    → y < 5
    → x < 5
    → p ≡ plane s y
    → Written s (set b (5 * y + x) (get_or p x 0)) (5 * y + (x + 1))
written-lane s b p y x w l h k q =
    written-more s b (5 * y + x) (5 * y + (x + 1)) (get_or p x 0) w (omega arith) (omega arith) (rw (q, tabulate-get (λ i. lane s i y) 5 x 0 k))
