-- What the folds add to a table: for a login's bits its element at each column whose bit is set, for its public columns its element times
-- the public half. Only the contracts of private functions cite these definitions.
-- Assumes nothing.
use Rattle.std.specs.Prelude.{ℕ, ◌-◌, ◌*◌, ◌%◌, ◌^◌, cond, List, ◌∷◌, nat_le, nat_lt, slice_index, slice_index_or}
use Rattle.magnetar_field.specs.Gf128.{◌⊗◌}
use Rattle.magnetar_field.specs.Words.{elements}
use Rattle.magnetar_matrix.specs.Sum.{sum_below}
use Rattle.magnetar_matrix.specs.Packed.{bit_at, packed_bit, login_part, public_part}

-- the word without its bits from n on
unfoldable pub word_select : ℕ → ℕ → ℕ
word_select word n = cond (nat_lt n 64) (word % 2 ^ n) word

-- e at column y where the word, whose bit 0 is column base, has its bit set
unfoldable pub select_at : ℕ → ℕ → ℕ → ℕ → ℕ
select_at word base e y = cond (nat_le base y) (bit_at word (y - base) * e) 0

-- e at column y, below w, where the words have its bit set
unfoldable pub row_select : List ℕ → ℕ → ℕ → ℕ → ℕ
row_select ws w e y = cond (nat_lt y w) (packed_bit ws y * e) 0

-- the sum over the logins below q of the factor of login u at column y where its bit is set
unfoldable pub fold_sum : ℕ → List ℕ → List ℕ → ℕ → ℕ → ℕ
fold_sum w ws fs q y = sum_below q (λ u. row_select (login_part w ws u) w (slice_index fs u) y)

-- e times the public half (1, x) at column y
unfoldable pub half_times : List ℕ → ℕ → ℕ → ℕ
half_times x e y = e ⊗ slice_index_or (1 ∷ x) y 0

-- the sum over the logins below q of the factor of login u times its public half at column y
unfoldable pub half_sum : ℕ → List ℕ → List ℕ → ℕ → ℕ → ℕ
half_sum w x fs q y = sum_below q (λ u. half_times (elements (public_part w x u)) (slice_index fs u) y)
