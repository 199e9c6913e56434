-- What `EqBits::build` leaves from 1 and from 0, and tables computed from other starts.
-- Assumes nothing.
use mathlib.Core.Path.{◌≡◌, refl, ap}
use mathlib.Core.List.{List, [], ◌∷◌}
use Prim.Native.Nat.{ℕ, ◌+◌, ◌^◌}
use lib.ListN.{replicate}
use Rattle.magnetar_field.specs.Gf128.{◌⊕◌, ◌⊗◌, times_x, sum_times}
use Rattle.magnetar_field.specs.Tabulate.{tabulate}
use Rattle.magnetar_field.specs.Words.{elements, words}
use Rattle.magnetar_multilinear.specs.EqTable.{eq_factor, eq_at, eq_table, eq_table_from}
use Rattle.magnetar_multilinear.specs.Entries.{table_words}
use Rattle.magnetar_multilinear.specs.Starts.{in_front, FromOne, FromZero}
use Rattle.magnetar_field.proofs.Elements.{elements-length, words-zero}
use Rattle.magnetar_multilinear.proofs.EqTables.{from_one, from_zero}

pub built-from-one : FromOne
built-from-one p out = ap (λ (t : List ℕ). in_front p (words t) out) (from_one (elements p))

pub built-from-zero : FromZero
built-from-zero p out = ap (λ (ws : List ℕ). in_front p ws out) zeros
  where
    zeros : words (eq_table_from 0 (elements p)) ≡ replicate (table_words p) 0
    zeros = rw (from_zero (elements p), words-zero, elements-length)

-- ---- computed from the definition: the point (x, x^2), whose table is 15, 10, 12, 8 (document 01, marked row 6)
-- from x: each entry times x
pub from-x : eq_table_from 2 (2 ∷ 4 ∷ []) ≡ 30 ∷ 20 ∷ 24 ∷ 16 ∷ []
unfolding ◌⊕◌ ◌⊗◌ times_x sum_times tabulate eq_factor eq_at eq_table eq_table_from
from-x = refl

-- from x^127 where there is no variable: the start itself
pub from-top : eq_table_from (2 ^ 127) [] ≡ 2 ^ 127 ∷ []
unfolding ◌⊕◌ ◌⊗◌ times_x sum_times tabulate eq_at eq_table eq_table_from
from-top = refl

-- from x^127 at the point (x): x^127 + x^128 and x^128, which is x^7 + x^2 + x + 1
pub from-top-at-x : eq_table_from (2 ^ 127) (2 ∷ []) ≡ (2 ^ 127 + 0x87) ∷ 0x87 ∷ []
unfolding ◌⊕◌ ◌⊗◌ times_x sum_times tabulate eq_factor eq_at eq_table eq_table_from
from-top-at-x = refl
