-- Entries of tables, and where the entries of a pair stand for the lowest and for the highest variable.
-- Assumes nothing.
use mathlib.Core.Path.{◌≡◌, refl}
use mathlib.Core.List.{List, [], ◌∷◌, map}
use Prim.Native.Nat.{ℕ, zero, suc, ◌+◌, ◌^◌, ◌<◌}
use native.Mathlib.Nat.{div-eq_of_lt, mod-eq_of_lt, zero-mul, zero-add, pow-zero}
use native.Mathlib.Omega.{arith}
use lib.ListN.{get_or}
use Rattle.magnetar_multilinear.specs.Multilinear.{insert_zero}

-- ---- entries
pub get_d_map : {A B : Type 0} (h : A → B) (t : List A) (i : ℕ) (d : A) → get_or (map h t) i (h d) ≡ h (get_or t i d)
get_d_map h [] i d = refl
get_d_map h (x ∷ t) zero d = refl
get_d_map h (x ∷ t) (suc i) d = get_d_map h t i d

-- ---- where the entries of pair i stand
pub insert-low : (i : ℕ) → insert_zero 0 i ≡ i + i
unfolding insert_zero
insert-low i = rw pow-zero (omega arith)

pub insert-top : (n i : ℕ) → i < 2 ^ n → insert_zero n i ≡ i
unfolding insert_zero
insert-top n i h = rw (div-eq_of_lt h, mod-eq_of_lt h, zero-mul, zero-add)
