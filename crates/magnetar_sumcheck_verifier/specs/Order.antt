-- In which order the variables are bound. `BindOrder::HighBitsFirst { high: s }`: the highest s variables, the highest of them
-- first, and then the others, the lowest first. `BindOrder::Increasing` is the same with s = 0.
-- Source: document 01, "The run" (which bits the rounds bind first); the Rust's `BindOrder`.
-- Assumes nothing.
use Rattle.std.specs.Prelude.{cond, List, [], ◌∷◌, ◌++◌, reverse, ℕ, zero, suc, ◌+◌, ◌-◌, ◌^◌, ltb, get_or, take, drop}
use Rattle.magnetar_field.specs.Gf128.{◌⊕◌, ◌⊗◌}
use Rattle.magnetar_multilinear.specs.Multilinear.{insert_zero}

-- the variable that is bound next, of n that are left with s high ones among them (`current_bit`)
unfoldable pub next_var : ℕ → ℕ → ℕ
next_var zero n = 0
next_var (suc s) n = n - 1

-- one high variable fewer
abbrev pub fewer : ℕ → ℕ
fewer zero = zero
fewer (suc s) = s

-- the point that the challenges make, variable 0 first (`point`)
unfoldable pub point : ℕ → List ℕ → List ℕ
point s cs = drop s cs ++ reverse (take s cs)

-- in which round variable j of n is bound
unfoldable pub place_of : ℕ → ℕ → ℕ → ℕ
place_of s n j = cond (ltb j (n - s)) (s + j) (n - 1 - j)

-- eq of two points: the product over j of 1 + p_j + q_j
unfoldable pub eq_points : List ℕ → List ℕ → ℕ
eq_points [] qs = 1
eq_points (p ∷ ps) [] = 1
eq_points (p ∷ ps) (q ∷ qs) = (1 ⊕ p ⊕ q) ⊗ eq_points ps qs

-- ---- A table by the pairs of its entries that differ in variable v alone.
-- the entry of pair i where the variable is 0
unfoldable pub at₀ : ℕ → List ℕ → ℕ → ℕ
at₀ v t i = get_or t (insert_zero v i) 0

-- and where it is 1
unfoldable pub at₁ : ℕ → List ℕ → ℕ → ℕ
at₁ v t i = get_or t (insert_zero v i + 2 ^ v) 0

-- the slope of the line through both
unfoldable pub slope : ℕ → List ℕ → ℕ → ℕ
slope v t i = at₀ v t i ⊕ at₁ v t i
