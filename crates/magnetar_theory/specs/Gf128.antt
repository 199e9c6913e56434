-- GF(2^128) as such a ring: the numbers below 2^128 with the sum and the product of magnetar_field; and the element that a number
-- stands for, by which lists of numbers become lists of elements.
-- Source: document 01, "Field and eq tables".
-- Assumes nothing.
use Rattle.std.specs.Prelude.{Bool, List, map, ℕ, ◌%◌, ◌^◌, ◌<◌, eqb}
use Rattle.std.proofs.Common.{mod-lt, pow_pos}
use Rattle.magnetar_field.specs.Gf128.{◌⊕◌, ◌⊗◌}
use Rattle.magnetar_field.specs.Polynomial.{roots}
use Rattle.magnetar_theory.specs.Field.{Field}

-- an element is a number below 2^128
abbrev pub Element : Type 0
Element = (n : ℕ) × (n < 2 ^ 128)

-- its number
unfoldable pub number : Element → ℕ
number x = x.0

-- the element of the 128 lowest coefficients
unfoldable pub element : ℕ → Element
element n = (n % 2 ^ 128, mod-lt n (pow_pos 128))

-- the sum
unfoldable pub element_sum : Element → Element → Element
element_sum x y = element (number x ⊕ number y)

-- the product
unfoldable pub element_product : Element → Element → Element
element_product x y = element (number x ⊗ number y)

-- the test for equality
unfoldable pub same : Element → Element → Bool
same x y = eqb (number x) (number y)

-- the roots of a polynomial, as elements
unfoldable pub roots_of : List Element → List Element
roots_of p = map element (roots (map number p))

-- the ring that the theory is used at
abbrev pub gf128 : Field
gf128 = record { K = Element; 𝟎 = element 0; 𝟏 = element 1; ◌⊕◌ = element_sum; ◌⊗◌ = element_product; same = same; roots = roots_of }
