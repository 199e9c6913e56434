-- The outer sum-check of one system is sound up to its lists, and complete.
-- Assumes nothing: the field and its laws are parameters.
use mathlib.Core.Path.{◌≡◌, refl, sym, ap, ap₂, ◌∙◌}
use mathlib.Core.List.{List, [], ◌∷◌, ◌++◌, map, reverse}
use mathlib.Core.Logic.{◌⊎◌, inl, inr}
use Prim.Native.Nat.{ℕ, ◌+◌, ◌^◌, ◌≤◌}
use native.Mathlib.Omega.{arith}
use lib.ListN.{length, length-append, length-reverse}
use Rattle.magnetar_theory.specs.Field.{Field, Laws}
use Rattle.magnetar_theory.proofs.Ring.{ring}
use Rattle.magnetar_theory.specs.SumCheck.{Checks, running, bind_all, BadChallenge, honest}
use Rattle.magnetar_theory.proofs.SumCheck.{sound, complete}
use Rattle.magnetar_theory.specs.Table.{State, table_rounds, sum_terms}
use Rattle.magnetar_theory.proofs.Table.{table_laws}
use Rattle.magnetar_theory.specs.Cells.{OuterCell, outer_cells}
use Rattle.magnetar_theory.proofs.Cells.{outer_cell_laws}
use Rattle.magnetar_theory.specs.EqTable.{eq_table, dot, eq_product}
use Rattle.magnetar_theory.proofs.EqTable.{dot-nil, eq-eq, length-eq_table}
use Rattle.magnetar_theory.specs.Tau.{Zeros, BadTau}
use Rattle.magnetar_theory.proofs.Tau.{tau-sound}
use Rattle.magnetar_theory.proofs.Column.{Column, run_end, last-value, column-end}
use Rattle.magnetar_theory.specs.Outer.{zip_outer, row_values, start}

module _ (F : Field) where
  open F use {K, 𝟎, 𝟏, ◌⊕◌, ◌⊗◌}

  infixl 60 ◌⊕◌
  infixl 70 ◌⊗◌
  module _ (L : Laws F) where
    nil : (t : List K) → length t ≡ 0 → [] ≡ t
    nil [] h = refl
    nil (x ∷ t) h = absurd (omega arith)

    zipped : (a b c e : List K) → length b ≡ length a → length c ≡ length a → length e ≡ length a
        → (map (λ (x : OuterCell F). x.a) (zip_outer F a b c e) ≡ a) × (map (λ (x : OuterCell F). x.b) (zip_outer F a b c e) ≡ b)
        × (map (λ (x : OuterCell F). x.c) (zip_outer F a b c e) ≡ c) × (map (λ (x : OuterCell F). x.e) (zip_outer F a b c e) ≡ e)
    zipped [] b c e h k l = (refl, nil b h, nil c k, nil e l)
    zipped (x ∷ a) [] c e h k l = absurd (omega arith)
    zipped (x ∷ a) (y ∷ b) [] e h k l = absurd (omega arith)
    zipped (x ∷ a) (y ∷ b) (z ∷ c) [] h k l = absurd (omega arith)
    zipped (x ∷ a) (y ∷ b) (z ∷ c) (w ∷ e) h k l = go (zipped a b c e (omega arith) (omega arith) (omega arith))
      where
        go : (map (λ (x : OuterCell F). x.a) (zip_outer F a b c e) ≡ a) × (map (λ (x : OuterCell F). x.b) (zip_outer F a b c e) ≡ b)
            × (map (λ (x : OuterCell F). x.c) (zip_outer F a b c e) ≡ c) × (map (λ (x : OuterCell F). x.e) (zip_outer F a b c e) ≡ e)
            → (x ∷ map (λ (x : OuterCell F). x.a) (zip_outer F a b c e) ≡ x ∷ a)
            × (y ∷ map (λ (x : OuterCell F). x.b) (zip_outer F a b c e) ≡ y ∷ b)
            × (z ∷ map (λ (x : OuterCell F). x.c) (zip_outer F a b c e) ≡ z ∷ c)
            × (w ∷ map (λ (x : OuterCell F). x.e) (zip_outer F a b c e) ≡ w ∷ e)
        go t = (
          ap (λ (l : List K). x ∷ l) t.0,
          ap (λ (l : List K). y ∷ l) t.1,
          ap (λ (l : List K). z ∷ l) t.2,
          ap
              (λ (l : List K). w ∷ l) t.3,
        )

    length-zip : (a b c e : List K) → length (zip_outer F a b c e) ≤ length a
    length-zip [] b c e = omega arith
    length-zip (x ∷ a) [] c e = omega arith
    length-zip (x ∷ a) (y ∷ b) [] e = omega arith
    length-zip (x ∷ a) (y ∷ b) (z ∷ c) [] = omega arith
    length-zip (x ∷ a) (y ∷ b) (z ∷ c) (w ∷ e) = omega (arith, length-zip a b c e)

    pub sum_rows : (a b c e : List K) → sum_terms F (outer_cells F) (zip_outer F a b c e) ≡ dot F e (row_values F a b c)
    sum_rows [] b c e = sym (dot-nil F e)
    sum_rows (x ∷ a) [] c e = sym (dot-nil F e)
    sum_rows (x ∷ a) (y ∷ b) [] e = sym (dot-nil F e)
    sum_rows (x ∷ a) (y ∷ b) (z ∷ c) [] = refl
    sum_rows (x ∷ a) (y ∷ b) (z ∷ c) (w ∷ e) = ap (λ (v : K). w ⊗ (x ⊗ y ⊕ z) ⊕ v) (sum_rows a b c e)

    pub dot-zeros : (e t : List K) → Zeros F t → dot F e t ≡ 𝟎
    dot-zeros [] t z = refl
    dot-zeros (x ∷ e) [] z = refl
    dot-zeros (x ∷ e) (y ∷ t) z = ap₂ (λ (u v : K). x ⊗ u ⊕ v) z.0 (dot-zeros e t z.1) ∙ none x
      where
        none : (x : K) → x ⊗ 𝟎 ⊕ 𝟎 ≡ 𝟎
        none x = simp (ring, L.is-ring)

    col_a : Column F (outer_cells F) (λ x. x.a)
    col_a = record { at_none = refl; at_mix = λ r x y. refl }

    col_b : Column F (outer_cells F) (λ x. x.b)
    col_b = record { at_none = refl; at_mix = λ r x y. refl }

    col_c : Column F (outer_cells F) (λ x. x.c)
    col_c = record { at_none = refl; at_mix = λ r x y. refl }

    col_e : Column F (outer_cells F) (λ x. x.e)
    col_e = record { at_none = refl; at_mix = λ r x y. refl }

    module _ (a b c taus rs cs : List K) (la : length a ≡ 2 ^ (length rs + length cs)) (lb : length b ≡ length a)
        (lc : length c ≡ length a) (lt : length taus ≡ length rs + length cs) where
      -- the point, lowest variable first
      abbrev pub point : List K
      point = cs ++ reverse rs

      abbrev pub begin : State F (outer_cells F)
      begin = start F a b c taus (length rs) (length cs)

      end-value : (table_rounds F (outer_cells F)).value (bind_all F (table_rounds F (outer_cells F)) (rs ++ cs) begin)
          ≡ eq_product F taus point ⊗ (dot F (eq_table F point) a ⊗ dot F (eq_table F point) b ⊕ dot F (eq_table F point) c)
      end-value = last-value F (outer_cells F) L (outer_cell_laws F L) (bind_all F (table_rounds F (outer_cells F)) (rs ++ cs) begin).cells
          (run_end F (outer_cells F) rs cs begin.cells (omega (arith, length-zip a b c (eq_table F taus))))
          ∙ ap₂ ◌⊗◌ (column-end F (outer_cells F) L (outer_cell_laws F L) (λ x. x.e) col_e rs cs begin.cells
          ∙ ap (dot F (eq_table F point)) z.3 ∙ eq-eq F L taus point sizes)
          (ap₂ ◌⊕◌ (ap₂ ◌⊗◌ (column-end F (outer_cells F) L (outer_cell_laws F L) (λ x. x.a) col_a rs cs begin.cells
          ∙ ap (dot F (eq_table F point)) z.0)
          (column-end F (outer_cells F) L (outer_cell_laws F L) (λ x. x.b) col_b rs cs begin.cells ∙ ap (dot F (eq_table F point)) z.1))
          (column-end F (outer_cells F) L (outer_cell_laws F L) (λ x. x.c) col_c rs cs begin.cells ∙ ap (dot F (eq_table F point)) z.2))
        where
          sizes : length taus ≡ length (cs ++ reverse rs)
          sizes = simp (length-append, length-reverse) (omega arith)

          z : (map (λ (x : OuterCell F). x.a) begin.cells ≡ a) × (map (λ (x : OuterCell F). x.b) begin.cells ≡ b)
              × (map (λ (x : OuterCell F). x.c) begin.cells ≡ c) × (map (λ (x : OuterCell F). x.e) begin.cells ≡ eq_table F taus)
          z = zipped a b c (eq_table F taus) lb lc (length-eq_table F L taus ∙ ap (λ (n : ℕ). 2 ^ n) lt ∙ sym la)

      length-rows : (a b c : List K) → length (row_values F a b c) ≤ length a
      length-rows [] b c = omega arith
      length-rows (x ∷ a) [] c = omega arith
      length-rows (x ∷ a) (y ∷ b) [] = omega arith
      length-rows (x ∷ a) (y ∷ b) (z ∷ c) = omega (arith, length-rows a b c)

      -- the checks pass, and the terminal identity holds with the true values: every row holds, or a challenge is in its list
      pub outer-sound : (ms : List (List K)) → Checks F 𝟎 ms (rs ++ cs)
          → running F 𝟎 ms (rs ++ cs) ≡ eq_product F taus point ⊗ (dot F (eq_table F point) a ⊗ dot F (eq_table F point) b ⊕ dot F
          (eq_table F point) c)
          → Zeros F (row_values F a b c) ⊎ (BadTau F (row_values F a b c) taus
          ⊎ BadChallenge F (table_rounds F (outer_cells F)) begin ms (rs ++ cs))
      outer-sound ms h e = go (sound F L (table_rounds F (outer_cells F)) (table_laws F (outer_cells F) L (outer_cell_laws F L)) ms
          (rs ++ cs) 𝟎 begin h (e ∙ sym end-value))
        where
          size : length (row_values F a b c) ≤ 2 ^ length taus
          size = rw lt (omega (arith, length-rows a b c))

          tau : Zeros F (row_values F a b c) ⊎ BadTau F (row_values F a b c) taus → Zeros F (row_values F a b c)
              ⊎ (BadTau F (row_values F a b c) taus ⊎ BadChallenge F (table_rounds F (outer_cells F)) begin ms (rs ++ cs))
          tau (inl z) = inl z
          tau (inr m) = inr (inl m)

          go : (𝟎 ≡ sum_terms F (outer_cells F) (zip_outer F a b c (eq_table F taus)))
              ⊎ BadChallenge F (table_rounds F (outer_cells F)) begin ms (rs ++ cs) → Zeros F (row_values F a b c)
              ⊎ (BadTau F (row_values F a b c) taus ⊎ BadChallenge F (table_rounds F (outer_cells F)) begin ms (rs ++ cs))
          go (inr m) = inr (inr m)
          go (inl v) = tau (tau-sound F L taus (row_values F a b c) size (sym (v ∙ sum_rows a b c (eq_table F taus))))

      -- if every row holds, the honest messages pass, and so does the terminal identity
      pub outer-complete : Zeros F (row_values F a b c) → Checks F 𝟎 (honest F (table_rounds F (outer_cells F)) begin (rs ++ cs)) (rs ++ cs)
          × (running F 𝟎 (honest F (table_rounds F (outer_cells F)) begin (rs ++ cs)) (rs ++ cs)
          ≡ eq_product F taus point ⊗ (dot F (eq_table F point) a ⊗ dot F (eq_table F point) b ⊕ dot F (eq_table F point) c))
      outer-complete z = go (sum_terms F (outer_cells F) (zip_outer F a b c (eq_table F taus)))
          (sum_rows a b c (eq_table F taus) ∙ dot-zeros (eq_table F taus) (row_values F a b c) z)
          (complete F L (table_rounds F (outer_cells F)) (table_laws F (outer_cells F) L (outer_cell_laws F L)) (rs ++ cs) begin)
        where
          go : (v : K) → v ≡ 𝟎 → Checks F v (honest F (table_rounds F (outer_cells F)) begin (rs ++ cs)) (rs ++ cs)
              × (running F v (honest F (table_rounds F (outer_cells F)) begin (rs ++ cs)) (rs ++ cs)
              ≡ (table_rounds F (outer_cells F)).value (bind_all F (table_rounds F (outer_cells F)) (rs ++ cs) begin))
              → Checks F 𝟎 (honest F (table_rounds F (outer_cells F)) begin (rs ++ cs)) (rs ++ cs)
              × (running F 𝟎 (honest F (table_rounds F (outer_cells F)) begin (rs ++ cs)) (rs ++ cs)
              ≡ eq_product F taus point ⊗ (dot F (eq_table F point) a ⊗ dot F (eq_table F point) b ⊕ dot F (eq_table F point) c))
          go v p h = (rw p at h.0, rw p at h.1 ∙ end-value)
