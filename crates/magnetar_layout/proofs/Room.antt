-- The test of the room that is lent.
-- Assumes nothing.
use mathlib.Core.Path.{◌≡◌}
use mathlib.Core.List.{List}
use Prim.Native.Nat.{ℕ, ◌≤◌, ◌<◌}
use lib.ListN.{length}
use borrow.Author.Tests.{lt-ltb, le-ltb}
use Rattle.magnetar_layout.specs.Tests.{or_refuse, first_refusal, room_test}

pub room-short : (n : ℕ) (s : List ℕ) → length s < n → ◌≡◌ {A = ℕ} 15 (first_refusal 0 (room_test n s))
unfolding or_refuse
room-short n s h = rw (lt-ltb (length s) n h)

pub room-enough : (n : ℕ) (s : List ℕ) → n ≤ length s → ◌≡◌ {A = ℕ} 0 (first_refusal 0 (room_test n s))
unfolding or_refuse
room-enough n s h = rw (le-ltb (length s) n h)
