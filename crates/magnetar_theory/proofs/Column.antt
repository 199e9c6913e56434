-- A column of a table of cells is bound as a table of elements is; at the end one cell is left.
-- Assumes nothing: the field and its laws are parameters.
use mathlib.Core.Path.{◌≡◌, refl, sym, ap, ap₂, ◌∙◌}
use mathlib.Core.List.{List, [], ◌∷◌, ◌++◌, map, reverse}
use Prim.Native.Nat.{ℕ, zero, suc, ◌+◌, ◌^◌, ◌≤◌}
use native.Mathlib.Nat.{two-pow-succ, zero-add, suc-add}
use native.Mathlib.Omega.{arith}
use lib.ListN.{length, take, drop, length-take, length-drop}
use Rattle.magnetar_theory.specs.Field.{Field, Laws}
use Rattle.magnetar_theory.specs.SumCheck.{bind_all}
use Rattle.magnetar_theory.specs.Table.{Cells, State, table_rounds, low_pairs, pair_up, top_pairs, pairs, mix_all, sum_terms, less}
use Rattle.magnetar_theory.proofs.Table.{CellLaws}
use Rattle.magnetar_theory.specs.Cells.{line_at}
use Rattle.magnetar_theory.specs.EqTable.{bind_low, mix_lists, bind_next, bind_run, first, eq_table, dot}
use Rattle.magnetar_theory.proofs.EqTable.{bind-run}

module _ {A B : Type 0} (f : A → B) where
  map-take : (n : ℕ) (t : List A) → map f (take n t) ≡ take n (map f t)
  map-take zero t = refl
  map-take (suc n) [] = refl
  map-take (suc n) (x ∷ t) = ap (λ (w : List B). f x ∷ w) (map-take n t)

  map-drop : (n : ℕ) (t : List A) → map f (drop n t) ≡ drop n (map f t)
  map-drop zero t = refl
  map-drop (suc n) [] = refl
  map-drop (suc n) (x ∷ t) = map-drop n t

module _ (F : Field) (X : Cells F) where
  open F use {K, 𝟎, 𝟏, ◌⊕◌, ◌⊗◌}
  open X use {C, none, mix, term}

  infixl 60 ◌⊕◌
  infixl 70 ◌⊗◌
  -- the first cell, or the zero
  abbrev pub first_cell : List C → C
  first_cell [] = none
  first_cell (x ∷ t) = x

  -- a column: zero at the zero, and on the line between its ends
  pub record Column (f : C → K) : Type 0 where
    pub at_none : f none ≡ 𝟎
    pub at_mix : (r : K) (x y : C) → f (mix r x y) ≡ line_at F r (f x) (f y)

  module _ (f : C → K) (D : Column f) where
    low : (r : K) (t : List C) → map f (mix_all F X r (low_pairs F X t)) ≡ bind_low F r (map f t)
    low r [] = refl
    low r (x ∷ []) = ap (λ (w : K). w ∷ []) (D.at_mix r x none ∙ ap (line_at F r (f x)) D.at_none)
    low r (x ∷ y ∷ t) = ap₂ ◌∷◌ (D.at_mix r x y) (low r t)

    up : (r : K) (s t : List C) → map f (mix_all F X r (pair_up F X s t)) ≡ mix_lists F r (map f s) (map f t)
    up r [] [] = refl
    up r [] (y ∷ t) = ap₂ ◌∷◌ (D.at_mix r none y ∙ ap (λ (w : K). line_at F r w (f y)) D.at_none) (up r [] t)
    up r (x ∷ s) [] = ap₂ ◌∷◌ (D.at_mix r x none ∙ ap (line_at F r (f x)) D.at_none) (up r s [])
    up r (x ∷ s) (y ∷ t) = ap₂ ◌∷◌ (D.at_mix r x y) (up r s t)

    next : (s b : ℕ) (r : K) (t : List C) → map f (mix_all F X r (pairs F X s b t)) ≡ bind_next F s b r (map f t)
    next zero b r t = low r t
    next (suc s) b r t = up r (take (2 ^ (s + b)) t) (drop (2 ^ (s + b)) t)
        ∙ ap₂ (mix_lists F r) (map-take f (2 ^ (s + b)) t) (map-drop f (2 ^ (s + b)) t)

    pub run : (rs : List K) (S : State F X) → map f (bind_all F (table_rounds F X) rs S).cells
        ≡ bind_run F S.tops S.lows rs (map f S.cells)
    run [] S = refl
    run (r ∷ rs) S = run rs ((table_rounds F X).bind r S)
        ∙ ap (bind_run F (less S.tops) S.lows rs) (next S.tops S.lows r S.cells)

    pub first-column : (t : List C) → f (first_cell t) ≡ first F (map f t)
    first-column [] = D.at_none
    first-column (x ∷ t) = refl

  length-mix_all : (r : K) (ps : List (C × C)) → length (mix_all F X r ps) ≡ length ps
  length-mix_all r [] = refl
  length-mix_all r (p ∷ ps) = ap suc (length-mix_all r ps)

  length-low : (t : List C) (n : ℕ) → length t ≤ n + n → length (low_pairs F X t) ≤ n
  length-low [] n h = omega arith
  length-low (x ∷ []) n h = omega arith
  length-low (x ∷ y ∷ t) zero h = absurd (omega arith)
  length-low (x ∷ y ∷ t) (suc n) h = omega (arith, length-low t n (omega arith))

  length_up : (s t : List C) (n : ℕ) → length s ≤ n → length t ≤ n → length (pair_up F X s t) ≤ n
  length_up [] [] n h k = h
  length_up [] (y ∷ t) zero h k = absurd (omega arith)
  length_up [] (y ∷ t) (suc n) h k = omega (arith, length_up [] t n (omega arith) (omega arith))
  length_up (x ∷ s) [] zero h k = absurd (omega arith)
  length_up (x ∷ s) [] (suc n) h k = omega (arith, length_up s [] n (omega arith) (omega arith))
  length_up (x ∷ s) (y ∷ t) zero h k = absurd (omega arith)
  length_up (x ∷ s) (y ∷ t) (suc n) h k = omega (arith, length_up s t n (omega arith) (omega arith))

  length-top : (r : K) (t : List C) (h : ℕ) → length t ≤ h + h → length (mix_all F X r (top_pairs F X h t)) ≤ h
  length-top r t h k = omega (
    arith,
    length-mix_all r (top_pairs F X h t),
    length_up (take h t) (drop h t) h (omega (arith, length-take h t))
        (omega (arith, length-drop h t)),
  )

  low_end : (b : ℕ) (cs : List K) (t : List C) → length t ≤ 2 ^ length cs
      → length (bind_all F (table_rounds F X) cs (record { tops = 0; lows = b; cells = t })).cells ≤ 1
  low_end b [] t h = h
  low_end b (c ∷ cs) t h = low_end b cs (mix_all F X c (low_pairs F X t))
      (omega (arith, length-mix_all c (low_pairs F X t), length-low t (2 ^ length cs) (omega (arith, two-pow-succ (length cs)))))

  pub run_end : (rs cs : List K) (t : List C) → length t ≤ 2 ^ (length rs + length cs)
      → length (bind_all F (table_rounds F X) (rs ++ cs) (record { tops = length rs; lows = length cs; cells = t })).cells ≤ 1
  run_end [] cs t h = low_end (length cs) cs t (rw zero-add at h)
  run_end (r ∷ rs) cs t h = run_end rs cs (mix_all F X r (pairs F X (suc (length rs)) (length cs) t))
      (length-top r t (2 ^ (length rs + length cs)) (rw (suc-add, two-pow-succ) at h))

  module _ (L : Laws F) (XL : CellLaws F X) where
    pub last-value : (t : List C) → length t ≤ 1 → sum_terms F X t ≡ term (first_cell t)
    last-value [] h = sym XL.none_zero
    last-value (x ∷ []) h = L.is-ring.add-zero (term x)
    last-value (x ∷ y ∷ t) h = absurd (omega arith)

    -- the columns of the last cell are the columns' sums against the eq table
    pub column-end : (f : C → K) → Column f → (rs cs : List K) (t : List C)
        → f (first_cell (bind_all F (table_rounds F X) (rs ++ cs) (record { tops = length rs; lows = length cs; cells = t })).cells)
        ≡ dot F (eq_table F (cs ++ reverse rs)) (map f t)
    column-end f D rs cs t = first-column f D (bind_all F (table_rounds F X) (rs ++ cs)
        (record { tops = length rs; lows = length cs; cells = t })).cells
        ∙ ap (first F) (run f D (rs ++ cs) (record { tops = length rs; lows = length cs; cells = t })) ∙ bind-run F L rs cs (map f t)
