-- What the walk for the masks adds to a word. Only private contracts cite these.
-- Assumes nothing.
use Rattle.std.specs.Prelude.{cond, List, ℕ, ◌+◌, ◌*◌, ◌%◌, ◌^◌, ltb}
use Rattle.magnetar_field.specs.Tabulate.{tabulate}
use Rattle.magnetar_matrix.specs.Sum.{sum_below}
use Rattle.magnetar_matrix.specs.Matrix.{Entry, row_total}
use Rattle.magnetar_matrix.specs.Packed.{packed_bit, login_part}

-- bit t, where the value is odd and z = (bits of ws, 1) is set at column c
unfoldable pub flip_at : ℕ → List ℕ → ℕ → ℕ → ℕ → ℕ
flip_at w ws t c value = cond (ltb c w) (packed_bit ws c) 1 * (value % 2) * 2 ^ t

-- the same of an entry
unfoldable pub flip : ℕ → List ℕ → ℕ → Entry → ℕ
flip w ws t e = flip_at w ws t e.col e.value

-- the bits of the n logins low, d + low, .. at row r
unfoldable pub flip_total : ℕ → List ℕ → List Entry → ℕ → ℕ → ℕ → ℕ → ℕ
flip_total w ws es d low n r = sum_below n (λ t. row_total (flip w (login_part w ws (t * d + low)) t) es r)

-- the bits of all rows, for one low
unfoldable pub flip_block : ℕ → List ℕ → List Entry → ℕ → ℕ → ℕ → ℕ → List ℕ
flip_block w ws es d n rows low = tabulate (flip_total w ws es d low n) rows
