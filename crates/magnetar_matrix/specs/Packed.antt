-- A batch and its public columns as words, login after login. Of its bits each login has two words of 64 bits for each 128 columns or part
-- of 128, the lowest column in the lowest bit of its first word; bits at or past w belong to no column. Of its public columns it has the
-- words of w - 1 elements.
-- Source: document 01, "Forms that give way" (packed login rows) and "Matrices and layout" (unused bits never matter); document 02, U6.
-- Assumes nothing.
use Rattle.std.specs.Prelude.{List, ◌∷◌, ◌++◌, ℕ, ◌*◌, ◌/◌, ◌%◌, ◌^◌, get_or, take, drop}
use Rattle.magnetar_field.specs.Tabulate.{tabulate}
use Rattle.magnetar_field.specs.Words.{elements}
unfoldable pub use Rattle.magnetar_layout.specs.Login.{login_words}
pub use Rattle.magnetar_layout.specs.Login.{public_words}
use Rattle.magnetar_matrix.specs.Matrix.{Matrix}
use Rattle.magnetar_matrix.specs.Batch.{Batch, PublicColumns, batch_products}

-- bit i of a number
abbrev pub bit_at : ℕ → ℕ → ℕ
bit_at n i = n / 2 ^ i % 2

-- the bit at column y of a login's words: bit y mod 64 of word y / 64
unfoldable pub packed_bit : List ℕ → ℕ → ℕ
packed_bit ws y = bit_at (get_or ws (y / 64) 0) (y % 64)

-- the words of login u
unfoldable pub login_part : ℕ → List ℕ → ℕ → List ℕ
login_part w ws u = take (login_words w) (drop (u * login_words w) ws)

-- the public words of login u
unfoldable pub public_part : ℕ → List ℕ → ℕ → List ℕ
public_part w x u = take (public_words w) (drop (u * public_words w) x)

-- z = (bits, 1, x) of a login with the words ws, w columns and the public columns x
unfoldable pub z_of : ℕ → List ℕ → List ℕ → List ℕ
z_of w ws x = tabulate (packed_bit ws) w ++ (1 ∷ x)

-- the batch of q logins with w columns that the words hold
unfoldable pub unpacked : ℕ → ℕ → List ℕ → Batch
unpacked q w ws = tabulate (λ u. tabulate (packed_bit (login_part w ws u)) w) q

-- the public columns of q logins with w witness columns that the public words hold
unfoldable pub public_of : ℕ → ℕ → List ℕ → PublicColumns
public_of q w x = tabulate (λ u. elements (public_part w x u)) q

-- the products of a matrix with each login that the packed words ws and the public words x hold, one behind the other
unfoldable pub packed_table : Matrix → (ws x : List ℕ) → ℕ → ℕ → List ℕ
packed_table m ws x q w = batch_products m (unpacked q w ws) (public_of q w x) q
