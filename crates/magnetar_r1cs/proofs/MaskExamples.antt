-- The masks of a small batch, computed from the definitions: four logins with two columns, and the rows w0 + 1 and w0 + w1.
-- Assumes nothing.
use mathlib.Core.Path.{◌≡◌, refl}
use mathlib.Core.List.{List, [], ◌∷◌}
use Prim.Native.Nat.{ℕ}
use Rattle.magnetar_field.specs.Gf128.{◌⊕◌, ◌⊗◌, times_x, sum_times}
use Rattle.magnetar_field.specs.Tabulate.{tabulate}
use Rattle.magnetar_field.specs.Sizes.{log₂, halvings}
use Rattle.magnetar_layout.specs.Every.{every}
use Rattle.magnetar_layout.specs.Lent.{Lent, lent}
use Rattle.magnetar_layout.specs.Login.{login_words}
use Rattle.magnetar_layout.specs.Tests.{or_refuse, is_size}
use Rattle.magnetar_matrix.specs.Sum.{blocks}
use Rattle.magnetar_matrix.specs.Matrix.{sum_over, row_total, share, times_at, bit_valued}
use Rattle.magnetar_matrix.specs.Batch.{assignment}
use Rattle.magnetar_matrix.specs.Packed.{packed_bit, login_part, unpacked}
use Rattle.magnetar_matrix.specs.Lent.{entries_of, matrix_of}
use Rattle.magnetar_r1cs.specs.Masks.{bits_below, mask_at, masks}
use Rattle.magnetar_r1cs.specs.Entries.{masks_refusal}

-- the matrix, its first value being v
abbrev rules : ℕ → Lent
rules v = lent 2 4 (0 ∷ 0 ∷ 1 ∷ 1 ∷ []) (0 ∷ 2 ∷ 0 ∷ 1 ∷ []) (v ∷ 1 ∷ 1 ∷ 1 ∷ []) (0 ∷ 0 ∷ 0 ∷ 0 ∷ [])

-- the logins 00, 10, 01, 11; the other bits of the first belong to no column
abbrev packed : List ℕ
packed = 252 ∷ 0 ∷ 1 ∷ 0 ∷ 2 ∷ 0 ∷ 3 ∷ 0 ∷ []

-- the outputs of the logins are 10, 01, 11, 00: one login in a word, two (0 and 2, then 1 and 3), and all four
pub one-login : masks (matrix_of (rules 1)) (unpacked 4 2 packed) 4 1 ≡ 1 ∷ 0 ∷ 0 ∷ 1 ∷ 1 ∷ 1 ∷ 0 ∷ 0 ∷ []
unfolding masks mask_at bits_below blocks tabulate times_at row_total sum_over share assignment unpacked packed_bit login_part login_words matrix_of entries_of ◌⊕◌ ◌⊗◌ times_x sum_times
one-login = refl

pub two-logins : masks (matrix_of (rules 1)) (unpacked 4 2 packed) 2 2 ≡ 3 ∷ 2 ∷ 0 ∷ 1 ∷ []
unfolding masks mask_at bits_below blocks tabulate times_at row_total sum_over share assignment unpacked packed_bit login_part login_words matrix_of entries_of ◌⊕◌ ◌⊗◌ times_x sum_times
two-logins = refl

pub four-logins : masks (matrix_of (rules 1)) (unpacked 4 2 packed) 1 4 ≡ 5 ∷ 6 ∷ []
unfolding masks mask_at bits_below blocks tabulate times_at row_total sum_over share assignment unpacked packed_bit login_part login_words matrix_of entries_of ◌⊕◌ ◌⊗◌ times_x sum_times
four-logins = refl

-- 12 comes before 13, and 13 before 15
pub refused-value : ◌≡◌ {A = ℕ} (masks_refusal (rules 2) packed 4 2 3 []) 12
unfolding masks_refusal or_refuse is_size log₂ halvings every bit_valued matrix_of entries_of login_words
refused-value = refl

pub refused-number : ◌≡◌ {A = ℕ} (masks_refusal (rules 1) packed 4 2 3 []) 13
unfolding masks_refusal or_refuse is_size log₂ halvings every bit_valued matrix_of entries_of login_words
refused-number = refl

pub refused-room : ◌≡◌ {A = ℕ} (masks_refusal (rules 1) packed 4 2 1 (0 ∷ 0 ∷ 0 ∷ [])) 15
unfolding masks_refusal or_refuse is_size log₂ halvings every bit_valued matrix_of entries_of login_words
refused-room = refl
