-- The inner sum-check is sound up to its lists, and complete.
-- Assumes nothing: the field and its laws are parameters.
use mathlib.Core.Path.{◌≡◌, refl, sym, ap, ap₂, ◌∙◌}
use mathlib.Core.List.{List, [], ◌∷◌, map, append-nil}
use mathlib.Core.Logic.{◌⊎◌, inl, inr}
use Prim.Native.Nat.{◌^◌, ◌≤◌}
use native.Mathlib.Nat.{zero-add}
use native.Mathlib.Omega.{arith}
use lib.ListN.{length}
use Rattle.magnetar_theory.specs.Field.{Field, Laws}
use Rattle.magnetar_theory.specs.SumCheck.{Checks, running, bind_all, BadChallenge, honest}
use Rattle.magnetar_theory.proofs.SumCheck.{sound, complete}
use Rattle.magnetar_theory.specs.Table.{State, table_rounds, sum_terms}
use Rattle.magnetar_theory.proofs.Table.{table_laws}
use Rattle.magnetar_theory.specs.Cells.{InnerCell, inner_cells}
use Rattle.magnetar_theory.proofs.Cells.{inner_cell_laws}
use Rattle.magnetar_theory.specs.EqTable.{eq_table, dot}
use Rattle.magnetar_theory.proofs.Column.{Column, run_end, last-value, column-end}
use Rattle.magnetar_theory.specs.Inner.{zip_inner}

module _ (F : Field) where
  open F use {K, 𝟎, 𝟏, ◌⊕◌, ◌⊗◌}

  infixl 60 ◌⊕◌
  infixl 70 ◌⊗◌
  module _ (L : Laws F) where
    nil : (t : List K) → length t ≡ 0 → [] ≡ t
    nil [] h = refl
    nil (x ∷ t) h = absurd (omega arith)

    zipped : (t z : List K) → length z ≡ length t → (map (λ (x : InnerCell F). x.t) (zip_inner F t z) ≡ t)
        × (map (λ (x : InnerCell F). x.z) (zip_inner F t z) ≡ z)
    zipped [] z h = (refl, nil z h)
    zipped (x ∷ t) [] h = absurd (omega arith)
    zipped (x ∷ t) (y ∷ z) h = go (zipped t z (omega arith))
      where
        go : (map (λ (x : InnerCell F). x.t) (zip_inner F t z) ≡ t) × (map (λ (x : InnerCell F). x.z) (zip_inner F t z) ≡ z)
            → (x ∷ map (λ (x : InnerCell F). x.t) (zip_inner F t z) ≡ x ∷ t)
            × (y ∷ map (λ (x : InnerCell F). x.z) (zip_inner F t z) ≡ y ∷ z)
        go e = (ap (λ (l : List K). x ∷ l) e.0, ap (λ (l : List K). y ∷ l) e.1)

    length-zip : (t z : List K) → length (zip_inner F t z) ≤ length t
    length-zip [] z = omega arith
    length-zip (x ∷ t) [] = omega arith
    length-zip (x ∷ t) (y ∷ z) = omega (arith, length-zip t z)

    pub sum-dot : (t z : List K) → sum_terms F (inner_cells F) (zip_inner F t z) ≡ dot F t z
    sum-dot [] z = refl
    sum-dot (x ∷ t) [] = refl
    sum-dot (x ∷ t) (y ∷ z) = ap (λ (v : K). x ⊗ y ⊕ v) (sum-dot t z)

    col_t : Column F (inner_cells F) (λ x. x.t)
    col_t = record { at_none = refl; at_mix = λ r x y. refl }

    col_z : Column F (inner_cells F) (λ x. x.z)
    col_z = record { at_none = refl; at_mix = λ r x y. refl }

    module _ (t z rs : List K) (lt : length t ≡ 2 ^ length rs) (lz : length z ≡ length t) where
      abbrev pub begin : State F (inner_cells F)
      begin = record { tops = 0; lows = length rs; cells = zip_inner F t z }

      end-value : (table_rounds F (inner_cells F)).value (bind_all F (table_rounds F (inner_cells F)) rs begin)
          ≡ dot F (eq_table F rs) t ⊗ dot F (eq_table F rs) z
      end-value = last-value F (inner_cells F) L (inner_cell_laws F L) (bind_all F (table_rounds F (inner_cells F)) rs begin).cells
          (run_end F (inner_cells F) [] rs begin.cells (rw zero-add (omega (arith, length-zip t z))))
          ∙ ap₂ ◌⊗◌ (column-end F (inner_cells F) L (inner_cell_laws F L) (λ x. x.t) col_t [] rs begin.cells
          ∙ ap₂ (λ (p l : List K). dot F (eq_table F p) l) (append-nil rs) (zipped t z lz).0)
          (column-end F (inner_cells F) L (inner_cell_laws F L) (λ x. x.z) col_z [] rs begin.cells
          ∙ ap₂ (λ (p l : List K). dot F (eq_table F p) l) (append-nil rs) (zipped t z lz).1)

      pub inner-sound : (v : K) (ms : List (List K)) → Checks F v ms rs → running F v ms rs
          ≡ dot F (eq_table F rs) t ⊗ dot F (eq_table F rs) z
          → (v ≡ dot F t z) ⊎ BadChallenge F (table_rounds F (inner_cells F)) begin ms rs
      inner-sound v ms h e = go (sound F L (table_rounds F (inner_cells F))
          (table_laws F (inner_cells F) L (inner_cell_laws F L)) ms rs v begin h (e ∙ sym end-value))
        where
          go : (v ≡ sum_terms F (inner_cells F) (zip_inner F t z)) ⊎ BadChallenge F (table_rounds F (inner_cells F)) begin ms rs → (v ≡ dot F t z)
              ⊎ BadChallenge F (table_rounds F (inner_cells F)) begin ms rs
          go (inl p) = inl (p ∙ sum-dot t z)
          go (inr m) = inr m

      pub inner-complete : Checks F (dot F t z) (honest F (table_rounds F (inner_cells F)) begin rs) rs
          × (running F (dot F t z) (honest F (table_rounds F (inner_cells F)) begin rs) rs ≡ dot F (eq_table F rs) t ⊗ dot F (eq_table F rs) z)
      inner-complete = go (sum_terms F (inner_cells F) (zip_inner F t z)) (sum-dot t z)
          (complete F L (table_rounds F (inner_cells F)) (table_laws F (inner_cells F) L (inner_cell_laws F L)) rs begin)
        where
          go : (v : K) → v ≡ dot F t z → Checks F v (honest F (table_rounds F (inner_cells F)) begin rs) rs
              × (running F v (honest F (table_rounds F (inner_cells F)) begin rs) rs
              ≡ (table_rounds F (inner_cells F)).value (bind_all F (table_rounds F (inner_cells F)) rs begin))
              → Checks F (dot F t z) (honest F (table_rounds F (inner_cells F)) begin rs) rs
              × (running F (dot F t z) (honest F (table_rounds F (inner_cells F)) begin rs) rs
              ≡ dot F (eq_table F rs) t ⊗ dot F (eq_table F rs) z)
          go v p h = (rw p at h.0, rw p at h.1 ∙ end-value)
