-- The fold over the logins.
-- Assumes nothing.
use Rattle.std.specs.Prelude.{◌≡◌, ℕ, ◌+◌, ◌^◌, ◌<◌, List, length, get_or}
use mathlib.Core.Path.{refl, sym, ◌∙◌}
use native.Mathlib.Numerals.{add-one}
use Rattle.magnetar_field.specs.Gf128.{◌⊗◌}
use Rattle.magnetar_field.specs.Tabulate.{tabulate}
use Rattle.magnetar_multilinear.specs.EqTable.{eq_at, eq_table}
use Rattle.magnetar_field.proofs.Xor.{⊕-zero}
use Rattle.magnetar_field.proofs.Tabulation.{tabulate-ext}
use Rattle.magnetar_multilinear.proofs.EqTables.{eq_table-get, eq_at-lt}
use Rattle.magnetar_matrix.specs.Sum.{sum_below}
use Rattle.magnetar_matrix.specs.Batch.{bit_of, folded_at, folded}
use Rattle.magnetar_matrix.specs.Packed.{packed_bit, login_part, unpacked}
use Rattle.magnetar_matrix.specs.Table.{raised}
use Rattle.magnetar_batch.specs.Fold.{row_select, fold_sum}
use Rattle.magnetar_matrix.proofs.Digits.{bit-lt, ⊗-bit}
use Rattle.magnetar_matrix.proofs.TableLaws.{raised_is, raised-twice}
use Rattle.magnetar_matrix.proofs.LoginParts.{bit-unpacked, sum-ext}
use Rattle.magnetar_batch.proofs.Selected.{row_in}

-- ---- the walk
pub logins-start : (w : ℕ) (ws fs t : List ℕ) → t ≡ raised (fold_sum w ws fs 0) t
unfolding fold_sum sum_below
logins-start w ws fs t = raised_is (fold_sum w ws fs 0) t t refl (λ y h. sym (⊕-zero (get_or t y 0)))

pub logins-more : (w : ℕ) (ws fs : List ℕ) (u : ℕ) (t₀ t t' : List ℕ) → t ≡ raised (fold_sum w ws fs u) t₀
    → t' ≡ raised (row_select (login_part w ws u) w (get_or fs u 0)) t → t' ≡ raised (fold_sum w ws fs (u + 1)) t₀
unfolding fold_sum sum_below
logins-more w ws fs u t₀ t t' a b =
    rw (b, a, add-one) (raised-twice (fold_sum w ws fs u) (row_select (login_part w ws u) w (get_or fs u 0)) t₀)

-- ---- the fold is that of the batch that the words hold
pub fold_is : (q w : ℕ) (ws p : List ℕ) → q ≡ 2 ^ length p → tabulate (fold_sum w ws (eq_table p) q) w ≡ folded q w (unpacked q w ws) p
unfolding folded fold_sum folded_at
fold_is q w ws p e =
    tabulate-ext (fold_sum w ws (eq_table p) q) (folded_at q (unpacked q w ws) p) w
    (λ y g. sum-ext q (λ u. row_select (login_part w ws u) w (get_or (eq_table p) u 0) y) (λ u. eq_at p u ⊗ bit_of (unpacked q w ws) u y)
    (λ u h. one u y h g))
  where
    one : (u y : ℕ) → u < q → y < w → row_select (login_part w ws u) w (get_or (eq_table p) u 0) y ≡ eq_at p u ⊗ bit_of (unpacked q w ws) u y
    one u y h g =
        row_in (login_part w ws u) w (get_or (eq_table p) u 0) y g
        ∙ rw (eq_table-get p u (rw e at h), bit-unpacked q w ws u y h g)
        (⊗-bit (packed_bit (login_part w ws u) y) (eq_at p u) (bit-lt (login_part w ws u) y) (eq_at-lt p u))
