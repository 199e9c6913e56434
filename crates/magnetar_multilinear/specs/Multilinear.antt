-- Multilinear polynomials in n variables, as tables of their 2^n values at the bit strings: entry i is the value at the
-- bits of i, bit 0 that of variable 0.
-- Source: document 01, "Field and eq tables" (`eval_mle`); the Rust's `bind_var`.
-- Assumes nothing.
use Rattle.std.specs.Prelude.{List, [], ◌∷◌, ℕ, ◌+◌, ◌*◌, ◌/◌, ◌%◌, ◌^◌, length, get_or}
use Rattle.magnetar_field.specs.Gf128.{◌⊕◌, ◌⊗◌}
use Rattle.magnetar_field.specs.Tabulate.{tabulate}
use Rattle.magnetar_multilinear.specs.EqTable.{eq_table}

-- the sum of the products of two lists, entry by entry
unfoldable pub dot : List ℕ → List ℕ → ℕ
dot [] ys = 0
dot (x ∷ xs) [] = 0
dot (x ∷ xs) (y ∷ ys) = x ⊗ y ⊕ dot xs ys

-- the value at the point p of the polynomial with the table t: the sum over i of t_i eq(p, i)
unfoldable pub mle : List ℕ → List ℕ → ℕ
mle t p = dot t (eq_table p)

-- the value at r of the line with the value a at 0 and b at 1: (1 + r) a + r b
unfoldable pub line : ℕ → ℕ → ℕ → ℕ
line r a b = a ⊕ r ⊗ (a ⊕ b)

-- i with the bit 0 put in at place v, the bits from there on one place up
unfoldable pub insert_zero : ℕ → ℕ → ℕ
insert_zero v i = i / 2 ^ v * (2 * 2 ^ v) + i % 2 ^ v

-- the table with variable v bound to r; the variables above v come one place down
unfoldable pub bind_var : ℕ → ℕ → List ℕ → List ℕ
bind_var v r t =
    tabulate (λ i. line r (get_or t (insert_zero v i) 0) (get_or t (insert_zero v i + 2 ^ v) 0)) (length t / 2)
