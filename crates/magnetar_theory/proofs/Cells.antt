-- Both kinds of cells: the polynomial on a line has the value of the cell there.
-- Assumes nothing: the field and its laws are parameters.
use mathlib.Core.Path.{◌≡◌}
use Rattle.magnetar_theory.specs.Field.{Field, Laws, eval}
use Rattle.magnetar_theory.proofs.Ring.{ring}
use Rattle.magnetar_theory.proofs.Table.{CellLaws}
use Rattle.magnetar_theory.specs.Cells.{line_at, cubic, outer_cells, quadratic, inner_cells}

module _ (F : Field) where
  open F use {K, 𝟎, 𝟏, ◌⊕◌, ◌⊗◌}

  infixl 60 ◌⊕◌
  infixl 70 ◌⊗◌
  module _ (L : Laws F) where
    pub mix_zero : (x y : K) → line_at F 𝟎 x y ≡ x
    mix_zero x y = simp (ring, L.is-ring, line_at)

    pub mix_one : (x y : K) → line_at F 𝟏 x y ≡ y
    mix_one x y = simp (ring, L.is-ring, line_at)

    cubic-is : (e e' a a' b b' c c' r : K) → eval F (cubic F e e' a a' b b' c c') r
        ≡ (e ⊕ r ⊗ e') ⊗ ((a ⊕ r ⊗ a') ⊗ (b ⊕ r ⊗ b') ⊕ (c ⊕ r ⊗ c'))
    cubic-is e e' a a' b b' c c' r = simp (ring, L.is-ring, eval)

    quadratic-is : (t t' z z' r : K) → eval F (quadratic F t t' z z') r ≡ (t ⊕ r ⊗ t') ⊗ (z ⊕ r ⊗ z')
    quadratic-is t t' z z' r = simp (ring, L.is-ring, eval)

    pub outer_cell_laws : CellLaws F (outer_cells F)
    outer_cell_laws = record {
      none_zero = simp (ring, L.is-ring);
      line_term = λ x y r. cubic-is x.e (x.e ⊕ y.e) x.a (x.a ⊕ y.a) x.b (x.b ⊕ y.b) x.c (x.c ⊕ y.c) r;
      mix_zero = λ x y i. record {
        a = mix_zero x.a y.a i;
        b = mix_zero x.b y.b i;
        c = mix_zero x.c y.c i;
        e = mix_zero
            x.e y.e i;
      };
      mix_one = λ x y i. record {
        a = mix_one x.a y.a i;
        b = mix_one x.b y.b i;
        c = mix_one x.c y.c i;
        e = mix_one x.e
            y.e i;
      };
    }

    pub inner_cell_laws : CellLaws F (inner_cells F)
    inner_cell_laws = record {
      none_zero = simp (ring, L.is-ring);
      line_term = λ x y r. quadratic-is x.t (x.t ⊕ y.t) x.z (x.z ⊕ y.z) r;
      mix_zero = λ x y i. record { t = mix_zero x.t y.t i; z = mix_zero x.z y.z i };
      mix_one = λ x y i. record { t = mix_one x.t y.t i; z = mix_one x.z y.z i };
    }
