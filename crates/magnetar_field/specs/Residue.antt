-- The parts of the product: polynomials of degree below 256 before their reduction, and the multiples of an element. Only
-- the contracts of private functions speak of these.
-- Assumes nothing.
use Rattle.std.specs.Prelude.{◌≡◌, ℕ, ◌+◌, ◌*◌, ◌^◌, ◌<◌, List, length, slice_index}
use Rattle.magnetar_field.specs.declared.gf128.Wide.{Wide}
use Rattle.magnetar_field.specs.Gf128.{◌⊕◌, ◌⊗◌, sum_times}

-- the number that four words make, the lowest first
abbrev pub wide : Wide → ℕ
wide t = ((t.w3 * 2 ^ 64 + t.w2) * 2 ^ 64 + t.w1) * 2 ^ 64 + t.w0

-- the remainder of a polynomial of degree below 256: the sum over its coefficients of coefficient i times x^i
unfoldable pub residue : ℕ → ℕ
residue u = sum_times 256 1 u

-- the element whose words are the entries k of two tables
abbrev pub pair_at : List ℕ → List ℕ → ℕ → ℕ
pair_at lo hi k = slice_index hi k * 2 ^ 64 + slice_index lo k

-- two tables of 16 words, of which the pair k is a times the polynomial k, for each k below n
pub record Multiples (a : ℕ) (lo hi : List ℕ) (n : ℕ) : Type 0 where
  pub low_size : length lo ≡ 16
  pub high_size : length hi ≡ 16
  pub multiple : (k : ℕ) → k < n → pair_at lo hi k ≡ a ⊗ k

-- one step: acc times x^4, plus x, plus y times x^64; the highest word has at most four bits more
pub record Combined (acc : Wide) (x y : ℕ) (r : Wide) : Type 0 where
  pub sum : wide r ≡ wide acc * 2 ^ 4 ⊕ x ⊕ y * 2 ^ 64
  pub small : r.w3 < (acc.w3 + 1) * 16
  pub words : (r.w0 < 2 ^ 64) × (r.w1 < 2 ^ 64) × (r.w2 < 2 ^ 64)
