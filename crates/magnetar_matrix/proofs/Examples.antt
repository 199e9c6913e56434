-- Small batches, computed from the definitions.
-- Assumes nothing.
use mathlib.Core.Path.{◌≡◌, refl}
use mathlib.Core.List.{[], ◌∷◌}
use lib.ListN.{replicate}
use Rattle.magnetar_field.specs.Gf128.{◌⊗◌, times_x, sum_times, ◌⊕◌}
use Rattle.magnetar_field.specs.Tabulate.{tabulate}
use Rattle.magnetar_field.specs.Words.{elements}
use Rattle.magnetar_multilinear.specs.EqTable.{eq_at, eq_factor}
use Rattle.magnetar_layout.specs.Layout.{next_multiple, offsets_from, offsets, within, outside}
use Rattle.magnetar_matrix.specs.Sum.{sum_below}
use Rattle.magnetar_matrix.specs.Batch.{Batch, bit_of, folded_at, folded, public_folded_at, public_folded}
use Rattle.magnetar_matrix.specs.RowCheck.{first_not, in_place, stray_column, stray_login}
use Rattle.magnetar_matrix.specs.Packed.{login_words, packed_bit, login_part, public_part, unpacked, public_of}

-- a login of 64 columns has two words, and the upper one holds no bit of it
pub upper-word-unused : unpacked 1 64 (1 ∷ 1 ∷ []) ≡ (1 ∷ replicate 63 0) ∷ []
unfolding tabulate login_words packed_bit login_part unpacked
upper-word-unused = refl

-- the logins (1, 0) and (0, 1) folded at the point [2]: column 0 is eq([2], 0) = 1 + 2, column 1 is eq([2], 1) = 2
pub both-folded : folded 2 2 ((1 ∷ 0 ∷ []) ∷ (0 ∷ 1 ∷ []) ∷ []) (2 ∷ []) ≡ 3 ∷ 2 ∷ []
unfolding ◌⊕◌ ◌⊗◌ times_x sum_times tabulate eq_at eq_factor sum_below bit_of folded_at folded
both-folded = refl

-- two logins of two witness columns have a public column each
pub own-columns : public_of 2 2 (5 ∷ 0 ∷ 4 ∷ 0 ∷ []) ≡ (5 ∷ []) ∷ (4 ∷ []) ∷ []
unfolding tabulate elements public_part public_of
own-columns = refl

-- their public halves (1, 5) and (1, 4) folded at the point [2]: the column of 1 is 3 + 2 = 1, the other one is 3 times 5 plus 2 times 4
pub halves-folded : public_folded 2 2 ((5 ∷ []) ∷ (4 ∷ []) ∷ []) (2 ∷ []) ≡ 1 ∷ 7 ∷ []
unfolding ◌⊕◌ ◌⊗◌ times_x sum_times tabulate eq_at eq_factor sum_below public_folded_at public_folded
halves-folded = refl

-- segments of 1 and 2 in eight columns: the columns 1 and 4 to 7 are outside. Of these two logins the second has bits at 1 and 5
abbrev template : Batch
template = (1 ∷ 0 ∷ 1 ∷ 1 ∷ 0 ∷ 0 ∷ 0 ∷ 0 ∷ []) ∷ (0 ∷ 1 ∷ 0 ∷ 0 ∷ 0 ∷ 1 ∷ 0 ∷ 0 ∷ []) ∷ []

-- the first stray bit is the second login's, and of its two the one at the lower column
pub lowest-told : (stray_login 2 8 (1 ∷ 2 ∷ []) template ≡ 1) × (stray_column 8 (1 ∷ 2 ∷ []) template 1 ≡ 1)
unfolding next_multiple offsets_from offsets within outside bit_of first_not in_place stray_column stray_login
lowest-told = (refl, refl)
