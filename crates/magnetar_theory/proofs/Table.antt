-- The rounds over tables of cells are rounds of a sum-check: the polynomial's value at r is the sum over the bound table, and
-- its values at 0 and 1 add up to the sum over the table.
-- Assumes nothing: the field and its laws are parameters.
use mathlib.Core.Path.{◌≡◌, refl, ◌∙◌}
use mathlib.Core.List.{List, [], ◌∷◌}
use Prim.Native.Nat.{ℕ, zero, suc, ◌+◌, ◌^◌}
use lib.ListN.{take, drop}
use Rattle.magnetar_theory.specs.Field.{Field, Laws, eval}
use Rattle.magnetar_theory.proofs.Ring.{ring}
use Rattle.magnetar_theory.proofs.SumCheck.{RoundLaws, eval-add_lists}
use Rattle.magnetar_theory.specs.Table.{Cells, low_pairs, pair_up, pairs, mix_all, poly_all, sum_terms, table_rounds}

module _ (F : Field) (X : Cells F) where
  open F use {K, 𝟎, 𝟏, ◌⊕◌, ◌⊗◌}
  open X use {C, none, mix, term, line}

  infixl 60 ◌⊕◌
  infixl 70 ◌⊗◌
  pub record CellLaws : Type 0 where
    pub none_zero : term none ≡ 𝟎
    pub line_term : (x y : C) (r : K) → eval F (line x y) r ≡ term (mix r x y)
    pub mix_zero : (x y : C) → mix 𝟎 x y ≡ x
    pub mix_one : (x y : C) → mix 𝟏 x y ≡ y

  module _ (L : Laws F) (XL : CellLaws) where
    poly_all-value : (ps : List (C × C)) (r : K) → eval F (poly_all F X ps) r ≡ sum_terms F X (mix_all F X r ps)
    poly_all-value [] r = refl
    poly_all-value (p ∷ ps) r = rw (
      poly_all,
      eval-add_lists F L (line p.0 p.1) (poly_all F X ps) r,
      poly_all-value ps r,
      XL.line_term
          p.0 p.1 r,
    ) refl

    -- the sum over pairs
    abbrev sum_pairs : List (C × C) → K
    sum_pairs [] = 𝟎
    sum_pairs (p ∷ ps) = term p.0 ⊕ (term p.1 ⊕ sum_pairs ps)

    mixed-sum : (ps : List (C × C)) → sum_terms F X (mix_all F X 𝟎 ps) ⊕ sum_terms F X (mix_all F X 𝟏 ps) ≡ sum_pairs ps
    mixed-sum [] = simp (ring, L.is-ring)
    mixed-sum (p ∷ ps) = rw (sum_terms, sum_pairs, ← mixed-sum ps, XL.mix_zero p.0 p.1, XL.mix_one p.0 p.1)
        (simp (ring, L.is-ring))

    low_sum : (t : List C) → sum_pairs (low_pairs F X t) ≡ sum_terms F X t
    low_sum [] = refl
    low_sum (x ∷ []) = rw XL.none_zero (simp (ring, L.is-ring))
    low_sum (x ∷ y ∷ t) = rw (low_sum t) refl

    up-sum : (xs ys : List C) → sum_pairs (pair_up F X xs ys) ≡ sum_terms F X xs ⊕ sum_terms F X ys
    up-sum [] [] = simp (ring, L.is-ring)
    up-sum [] (y ∷ ys) = rw (up-sum [] ys, XL.none_zero) (simp (ring, L.is-ring))
    up-sum (x ∷ xs) [] = rw (up-sum xs [], XL.none_zero) (simp (ring, L.is-ring))
    up-sum (x ∷ xs) (y ∷ ys) = rw (up-sum xs ys) (simp (ring, L.is-ring))

    halves-sum : (h : ℕ) (t : List C) → sum_terms F X (take h t) ⊕ sum_terms F X (drop h t) ≡ sum_terms F X t
    halves-sum zero t = simp (ring, L.is-ring)
    halves-sum (suc h) [] = simp (ring, L.is-ring)
    halves-sum (suc h) (x ∷ t) = rw (sum_terms, ← halves-sum h t) (simp (ring, L.is-ring))

    pairs-sum : (s b : ℕ) (t : List C) → sum_pairs (pairs F X s b t) ≡ sum_terms F X t
    pairs-sum zero b t = low_sum t
    pairs-sum (suc s) b t = up-sum (take (2 ^ (s + b)) t) (drop (2 ^ (s + b)) t) ∙ halves-sum (2 ^ (s + b)) t

    pub table_laws : RoundLaws F (table_rounds F X)
    table_laws = record {
      poly_value = λ S r. poly_all-value (pairs F X S.tops S.lows S.cells) r;
      poly_sum = λ S. rw (
        poly_all-value (pairs F X S.tops S.lows S.cells) 𝟎,
        poly_all-value
            (pairs F X S.tops S.lows S.cells) 𝟏,
      )
          (mixed-sum (pairs F X S.tops S.lows S.cells) ∙ pairs-sum S.tops S.lows S.cells);
    }
