-- The equality polynomial: eq(p, i) is the product over j of p_j where bit j of i is 1, and of 1 + p_j where it is 0.
-- Source: document 01, "Field and eq tables" (`EqBits::build`); document 02, U5 (tables from a start).
-- Assumes nothing.
use Rattle.std.specs.Prelude.{Bool, true, false, List, [], ◌∷◌, map, ℕ, ◌/◌, ◌%◌, ◌^◌, eqb, length}
use Rattle.magnetar_field.specs.Gf128.{◌⊕◌, ◌⊗◌}
use Rattle.magnetar_field.specs.Tabulate.{tabulate}

-- the factor of one variable: r where the bit is 1, 1 + r where it is 0
unfoldable pub eq_factor : ℕ → Bool → ℕ
eq_factor r true = r
eq_factor r false = 1 ⊕ r

-- bit 0 of a number
abbrev pub odd : ℕ → Bool
odd i = eqb (i % 2) 1

-- eq(p, i)
unfoldable pub eq_at : List ℕ → ℕ → ℕ
eq_at [] i = 1
eq_at (r ∷ p) i = eq_factor r (odd i) ⊗ eq_at p (i / 2)

-- eq at a point given by its bits, the first one that of variable 0
unfoldable pub eq_at_bits : List ℕ → List Bool → ℕ
eq_at_bits [] bs = 1
eq_at_bits (r ∷ p) [] = 1
eq_at_bits (r ∷ p) (b ∷ bs) = eq_factor r b ⊗ eq_at_bits p bs

-- eq(p, 0), eq(p, 1), .., an entry for each number of as many bits as p has elements
unfoldable pub eq_table : List ℕ → List ℕ
eq_table p = tabulate (eq_at p) (2 ^ length p)

-- the table from the start c: each of these entries times c
unfoldable pub eq_table_from : ℕ → List ℕ → List ℕ
eq_table_from c p = map (λ e. c ⊗ e) (eq_table p)
