-- The cells of the two sum-checks of Spartan: (a, b, c, e) with the summand e (a b + c), and (t, z) with the summand t z; and
-- the polynomial of each on the line through two cells.
-- Source: Spartan (Setty, CRYPTO 2020), the summands of both sum-checks.
-- Assumes nothing.
use Rattle.std.specs.Prelude.{List, [], ◌∷◌}
use Rattle.magnetar_theory.specs.Field.{Field}
use Rattle.magnetar_theory.specs.Table.{Cells}

module _ (F : Field) where
  open F use {K, 𝟎, 𝟏, ◌⊕◌, ◌⊗◌}

  infixl 60 ◌⊕◌
  infixl 70 ◌⊗◌
  -- the value at r of the line through x at 0 and y at 1
  abbrev pub line_at : K → K → K → K
  line_at r x y = x ⊕ r ⊗ (x ⊕ y)

  -- an entry of the tables a, b, c and of the eq table e
  pub record OuterCell : Type 0 where
    pub a : K
    pub b : K
    pub c : K
    pub e : K

  -- the coefficients of (e + e'r)((a + a'r)(b + b'r) + (c + c'r))
  abbrev pub cubic : K → K → K → K → K → K → K → K → List K
  cubic e e' a a' b b' c c' =
      e ⊗ (a ⊗ b ⊕ c)
      ∷ (e ⊗ (a ⊗ b' ⊕ a' ⊗ b ⊕ c') ⊕ e' ⊗ (a ⊗ b ⊕ c))
      ∷ (e ⊗ (a' ⊗ b') ⊕ e' ⊗ (a ⊗ b' ⊕ a' ⊗ b ⊕ c'))
      ∷ e' ⊗ (a' ⊗ b') ∷ []

  -- the cells of the outer sum-check: a summand e (a b + c)
  abbrev pub outer_cells : Cells F
  outer_cells = record {
    C = OuterCell;
    none = record { a = 𝟎; b = 𝟎; c = 𝟎; e = 𝟎 };
    mix = λ r x y. record {
      a = line_at r x.a y.a;
      b = line_at r x.b y.b;
      c = line_at r x.c y.c;
      e = line_at r x.e
          y.e;
    };
    term = λ x. x.e ⊗ (x.a ⊗ x.b ⊕ x.c);
    line = λ x y. cubic x.e (x.e ⊕ y.e) x.a (x.a ⊕ y.a) x.b (x.b ⊕ y.b) x.c (x.c ⊕ y.c);
  }

  -- an entry of the tables t and z
  pub record InnerCell : Type 0 where
    pub t : K
    pub z : K

  -- the coefficients of (t + t'r)(z + z'r)
  abbrev pub quadratic : K → K → K → K → List K
  quadratic t t' z z' = t ⊗ z ∷ (t ⊗ z' ⊕ t' ⊗ z) ∷ t' ⊗ z' ∷ []

  -- the cells of the inner sum-check: a summand t z
  abbrev pub inner_cells : Cells F
  inner_cells = record {
    C = InnerCell;
    none = record { t = 𝟎; z = 𝟎 };
    mix = λ r x y. record { t = line_at r x.t y.t; z = line_at r x.z y.z };
    term = λ x. x.t ⊗ x.z;
    line = λ x y. quadratic x.t (x.t ⊕ y.t) x.z (x.z ⊕ y.z);
  }
