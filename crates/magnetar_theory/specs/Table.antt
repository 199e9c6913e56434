-- Tables over the boolean cube as the states of a sum-check. A table is a list of cells, entry i that of the bits of i; a round
-- binds the highest variable while there are high ones left, and then the lowest.
-- Source: Spartan (Setty, CRYPTO 2020), multilinear polynomials; document 01, "The run" (which bits the rounds bind first).
-- Assumes nothing.
use Rattle.std.specs.Prelude.{List, [], ◌∷◌, ℕ, zero, suc, ◌+◌, ◌^◌, take, drop}
use Rattle.magnetar_theory.specs.Field.{Field}
use Rattle.magnetar_theory.specs.SumCheck.{Rounds, add_lists}

-- What a table holds: a zero, the cell at r on the line through two, what a cell adds to the sum, and that as a polynomial in r
pub record Cells (F : Field) : Type 1 where
  pub C : Type 0
  pub none : C
  pub mix : F.K → C → C → C
  pub term : C → F.K
  pub line : C → C → List F.K

-- one fewer
abbrev pub less : ℕ → ℕ
less zero = zero
less (suc s) = s

module _ (F : Field) (X : Cells F) where
  open F use {K, 𝟎, 𝟏, ◌⊕◌, ◌⊗◌}
  open X use {C, none, mix, term, line}

  infixl 60 ◌⊕◌
  infixl 70 ◌⊗◌
  -- the pairs of cells that differ in the lowest variable: neighbours
  abbrev pub low_pairs : List C → List (C × C)
  low_pairs [] = []
  low_pairs (x ∷ []) = (x, none) ∷ []
  low_pairs (x ∷ y ∷ t) = (x, y) ∷ low_pairs t

  -- the pairs of two lists (a missing cell is the zero)
  abbrev pub pair_up : List C → List C → List (C × C)
  pair_up [] [] = []
  pair_up [] (y ∷ ys) = (none, y) ∷ pair_up [] ys
  pair_up (x ∷ xs) [] = (x, none) ∷ pair_up xs []
  pair_up (x ∷ xs) (y ∷ ys) = (x, y) ∷ pair_up xs ys

  -- the pairs that differ in the highest variable: h cells apart
  abbrev pub top_pairs : ℕ → List C → List (C × C)
  top_pairs h t = pair_up (take h t) (drop h t)

  -- with s high variables left to bind, over 2 ^ b cells each, the highest is next; after those the lowest
  abbrev pub pairs : ℕ → ℕ → List C → List (C × C)
  pairs zero b t = low_pairs t
  pairs (suc s) b t = top_pairs (2 ^ (s + b)) t

  -- each pair at r
  abbrev pub mix_all : K → List (C × C) → List C
  mix_all r [] = []
  mix_all r (p ∷ ps) = mix r p.0 p.1 ∷ mix_all r ps

  -- the sum of the pairs' polynomials
  abbrev pub poly_all : List (C × C) → List K
  poly_all [] = []
  poly_all (p ∷ ps) = add_lists F (line p.0 p.1) (poly_all ps)

  -- the sum of the cells' terms
  abbrev pub sum_terms : List C → K
  sum_terms [] = 𝟎
  sum_terms (x ∷ t) = term x ⊕ sum_terms t

  -- the high variables that are left, the low ones at the start, and the table
  pub record State : Type 0 where
    pub tops : ℕ
    pub lows : ℕ
    pub cells : List C

  -- the sum-check over tables
  abbrev pub table_rounds : Rounds F
  table_rounds = record {
    St = State;
    value = λ S. sum_terms S.cells;
    bind = λ r S. record { tops = less S.tops; lows = S.lows; cells = mix_all r (pairs S.tops S.lows S.cells) };
    poly = λ S. poly_all (pairs S.tops S.lows S.cells);
  }
