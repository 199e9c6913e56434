-- What the walks over a matrix's entries leave in a table. Of these definitions public contracts cite `added_in` (`add_at`), `added_at`
-- (`add_word`, and by `added_to` of `magnetar_relation` its `add_to`) and `repeated` (`repeats`); the others are for private ones.
-- Source: the Rust's loops over the entries of a matrix (`apply`, `apply_simd_packed`), entry by entry.
-- Assumes nothing.
use Rattle.std.specs.Prelude.{Bool, true, cond, ◌&&◌, List, ◌∷◌, ◌++◌, ℕ, zero, suc, ◌+◌, ◌-◌, ◌*◌, ◌%◌, ◌≤◌, eqb, ltb, leb, length, get_or, set, drop, ◌≡◌}
use Rattle.magnetar_field.specs.Gf128.{◌⊕◌, ◌⊗◌}
use Rattle.magnetar_field.specs.Tabulate.{tabulate}
use Rattle.magnetar_field.specs.Words.{elements, stored}
use Rattle.magnetar_multilinear.specs.Entries.{table_words}
use Rattle.magnetar_matrix.specs.Matrix.{Entry, row_total}
use Rattle.magnetar_matrix.specs.Packed.{packed_bit, login_part, public_part}

-- the words with v added to the element at index k; unchanged where they hold no such element
unfoldable pub added_in : List ℕ → ℕ → ℕ → List ℕ
added_in s k v = stored s k (get_or (elements s) k 0 ⊕ v)

-- t with v added at index k; unchanged where it has no such index
unfoldable pub added_at : List ℕ → ℕ → ℕ → List ℕ
added_at t k v = set t k (get_or t k 0 ⊕ v)

-- t with f i added at each index i
unfoldable pub raised : (ℕ → ℕ) → List ℕ → List ℕ
raised f t = tabulate (λ i. get_or t i 0 ⊕ f i) (length t)

-- an entry's share of the product with a login's z = (w, 1, x) that comes from its columns (1, x), of which the first is w
unfoldable pub public_share : ℕ → List ℕ → Entry → ℕ
public_share w x e = cond (ltb e.col w) 0 (e.value ⊗ get_or (1 ∷ x) (e.col - w) 0)

-- its share that comes from the bits of a login's words ws
unfoldable pub bit_share : ℕ → List ℕ → Entry → ℕ
bit_share w ws e = cond (ltb e.col w) (e.value ⊗ packed_bit ws e.col) 0

-- row i of a login's product: the shares of its entries from the public columns and from the bits
unfoldable pub login_total : ℕ → List ℕ → List ℕ → List Entry → ℕ → ℕ
login_total w x ws es i = row_total (public_share w x) es i ⊕ row_total (bit_share w ws) es i

-- the product of login u of the packed words ws and the public words x, n rows
unfoldable pub login_block : ℕ → List ℕ → List ℕ → List Entry → ℕ → ℕ → List ℕ
login_block w x ws es n u = tabulate (login_total w (elements (public_part w x u)) (login_part w ws u) es) n

-- the part of a login's product that comes from its public columns x, n rows
abbrev pub public_rows : ℕ → List ℕ → List Entry → ℕ → List ℕ
public_rows w x es n = tabulate (row_total (public_share w x) es) n

-- what stands behind the first m words of s once the m words p are laid there; as it was where it has no room for them
unfoldable pub laid_behind : ℕ → (p s : List ℕ) → List ℕ
laid_behind m p s = cond (leb (2 * m) (length s)) (p ++ drop (2 * m) s) (drop m s)

-- the first n words agree with those from k on
unfoldable pub agree : ℕ → List ℕ → ℕ → Bool
agree k s zero = true
agree k s (suc n) = agree k s n && eqb (get_or s n 0) (get_or s (k + n) 0)

-- the first k words are followed by k words, the same ones
unfoldable pub repeated : ℕ → List ℕ → Bool
repeated k s = leb (2 * k) (length s) && agree k s k

-- an entry's value times the factors at its row, and at its column behind the n row factors
unfoldable pub cross : List ℕ → ℕ → Entry → ℕ
cross f n e = e.value ⊗ (get_or f e.row 0 ⊗ get_or f (n + e.col) 0)

-- the four slices of a matrix's entries are equally long
pub record Equal (r c l h : List ℕ) : Type 0 where
  pub col : length c ≡ length r
  pub lo : length l ≡ length r
  pub hi : length h ≡ length r

-- the words p are a point, and the words s have room for its eq table and no more
pub record Point (p s : List ℕ) : Type 0 where
  pub even : length p % 2 ≡ 0
  pub short : length p ≤ 40
  pub room : length s ≡ table_words p
