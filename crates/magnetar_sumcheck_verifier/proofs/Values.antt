-- The two laws of a round over numbers: the message's value at r is the sum over the bound tables, and its values at 0 and at 1 add
-- up to the sum over the tables.
-- Assumes nothing.
use mathlib.Core.Path.{◌≡◌, refl, sym, ap, ◌∙◌}
use mathlib.Core.List.{List, [], ◌∷◌, map}
use Prim.Native.Nat.{ℕ, zero, suc, ◌^◌, ◌<◌}
use native.Mathlib.Omega.{arith}
use lib.ListN.{length, get_or, length-map}
use Rattle.magnetar_field.specs.Gf128.{◌⊕◌, ◌⊗◌}
use Rattle.magnetar_field.specs.Polynomial.{eval}
use Rattle.magnetar_multilinear.specs.Multilinear.{dot, bind_var}
use Rattle.magnetar_field.proofs.Polynomial.{eval-lt}
use Rattle.magnetar_field.proofs.Product.{⊗-lt}
use Rattle.magnetar_theory.specs.Field.{eval as eval_e}
use Rattle.magnetar_theory.specs.SumCheck.{check_sum as check_sum_e}
use Rattle.magnetar_theory.specs.Table.{State, table_rounds, sum_terms}
use Rattle.magnetar_theory.specs.Cells.{outer_cells, inner_cells}
use Rattle.magnetar_theory.specs.EqTable.{scale, eq_table as eq_table_e, dot as dot_e}
use Rattle.magnetar_theory.specs.Outer.{row_values}
use Rattle.magnetar_theory.specs.Inner.{zip_inner}
use Rattle.magnetar_theory.specs.Gf128.{Element, element, element_sum, element_product, gf128}
use Rattle.magnetar_theory.proofs.SumCheck.{check_sum-is}
use Rattle.magnetar_theory.proofs.Table.{table_laws}
use Rattle.magnetar_theory.proofs.Cells.{outer_cell_laws, inner_cell_laws}
use Rattle.magnetar_theory.proofs.EqTable.{length-eq_table}
use Rattle.magnetar_theory.proofs.Matrix.{dot-scale-left}
use Rattle.magnetar_theory.proofs.Outer.{sum_rows}
use Rattle.magnetar_theory.proofs.Inner.{sum-dot}
use Rattle.magnetar_theory.proofs.Gf128.{element-⊕, element-⊗, element-inj, gf128_laws}
use Rattle.magnetar_sumcheck_verifier.specs.Round.{check_sum}
use Rattle.magnetar_sumcheck_verifier.specs.Outer.{weighted}
use Rattle.magnetar_sumcheck_verifier.specs.Inner.{inner_message}
use Rattle.magnetar_sumcheck_verifier.specs.Messages.{Outer, outer_value, outer_next, outer_fold}
use Rattle.magnetar_sumcheck_verifier.proofs.Hom.{element-eval, element-check_sum, check_sum-lt}
use Rattle.magnetar_sumcheck_verifier.proofs.OuterRound.{sum_f}
use Rattle.magnetar_sumcheck_verifier.proofs.OuterRun as O
use Rattle.magnetar_sumcheck_verifier.proofs.OuterRun.{Stands, element-sum}
use Rattle.magnetar_sumcheck_verifier.proofs.InnerRun as I
use Rattle.magnetar_sumcheck_verifier.proofs.Protocol.{element-dot, dot-lt, outer_next-below, inner_message-below}

abbrev els : List ℕ → List Element
els t = map element t

-- ---- the outer sum-check
-- a sum by index is the sum of the products of two lists
dot-sum : (e : List ℕ) (rows : List Element) (f : ℕ → ℕ) → length rows ≡ length e
    → ((i : ℕ) → i < length e → element (f i) ≡ get_or rows i (element 0))
    → element (weighted e f (length e)) ≡ dot_e gf128 (els e) rows
unfolding weighted
dot-sum e rows f l h = element-sum (λ i. get_or e i 0 ⊗ f i) (λ i. element_product (element (get_or e i 0)) (get_or rows i (element 0))) (length e)
    (λ i k. element-⊗ (get_or e i 0) (f i) ∙ ap (element_product (element (get_or e i 0))) (h i k)) ∙ go e rows l
  where
    go : (e : List ℕ) (rows : List Element) → length rows ≡ length e
        → sum_f gf128 (λ i. element_product (element (get_or e i 0)) (get_or rows i (element 0))) (length e) ≡ dot_e gf128 (els e) rows
    go [] [] l = refl
    go [] (y ∷ rows) l = absurd (omega arith)
    go (x ∷ e) [] l = absurd (omega arith)
    go (x ∷ e) (y ∷ rows) l = ap (element_sum (element_product (element x) y)) (go e rows (omega arith))

row_at : (a b c : List ℕ) (i : ℕ) → length b ≡ length a → length c ≡ length a → i < length a
    → element (get_or a i 0 ⊗ get_or b i 0 ⊕ get_or c i 0) ≡ get_or (row_values gf128 (els a) (els b) (els c)) i (element 0)
row_at [] b c i h k l = absurd (omega arith)
row_at (x ∷ a) [] c i h k l = absurd (omega arith)
row_at (x ∷ a) (y ∷ b) [] i h k l = absurd (omega arith)
row_at (x ∷ a) (y ∷ b) (z ∷ c) zero h k l = element-⊕ (x ⊗ y) z ∙ ap (λ (w : Element). element_sum w (element z)) (element-⊗ x y)
row_at (x ∷ a) (y ∷ b) (z ∷ c) (suc i) h k l = row_at a b c i (omega arith) (omega arith) (omega arith)

length-rows : (a b c : List ℕ) → length b ≡ length a → length c ≡ length a → length (row_values gf128 (els a) (els b) (els c)) ≡ length a
length-rows [] b c h k = refl
length-rows (x ∷ a) [] c h k = absurd (omega arith)
length-rows (x ∷ a) (y ∷ b) [] h k = absurd (omega arith)
length-rows (x ∷ a) (y ∷ b) (z ∷ c) h k = ap suc (length-rows a b c (omega arith) (omega arith))

-- the sum that the prover's tables stand for is the state's
pub value-is : (S : Outer) (T : State gf128 (outer_cells gf128)) → Stands S T → element (outer_value S)
    ≡ (table_rounds gf128 (outer_cells gf128)).value T
unfolding outer_value
value-is S T C =
    element-⊗ S.k (weighted S.e (λ i. get_or S.a i 0 ⊗ get_or S.b i 0 ⊕ get_or S.c i 0) (length S.e))
    ∙ ap (element_product (element S.k)) (dot-sum S.e (row_values gf128 (els S.a) (els S.b) (els S.c))
    (λ i. get_or S.a i 0 ⊗ get_or S.b i 0 ⊕ get_or S.c i 0)
    (length-rows S.a S.b S.c lb lc ∙ sym le) (λ i h. row_at S.a S.b S.c i lb lc (rw le at h))
    ∙ ap (λ (e : List Element). dot_e gf128 e (row_values gf128 (els S.a) (els S.b) (els S.c))) C.eq)
    ∙ sym (dot-scale-left gf128 gf128_laws (element S.k) (eq_table_e gf128 (els S.tau))
    (row_values gf128 (els S.a) (els S.b) (els S.c)))
    ∙ sym (sum_rows gf128 gf128_laws (els S.a) (els S.b) (els S.c) (scale gf128 (element S.k) (eq_table_e gf128 (els S.tau))))
    ∙ ap (sum_terms gf128 (outer_cells gf128)) (sym C.cells)
  where
    lb : length S.b ≡ length S.a
    lb = C.size_b ∙ sym C.size_a

    lc : length S.c ≡ length S.a
    lc = C.size_c ∙ sym C.size_a

    le : length S.e ≡ length S.a
    le = sym (length-map S.e element) ∙ ap length C.eq ∙ length-eq_table gf128 gf128_laws (els S.tau)
        ∙ ap (λ (n : ℕ). 2 ^ n) (length-map S.tau element) ∙ sym C.size_a

value-lt : (S : Outer) → outer_value S < 2 ^ 128
unfolding outer_value
value-lt S = ⊗-lt _ _

module _ (S : Outer) (T : State gf128 (outer_cells gf128)) (C : Stands S T) (n : ℕ) (left : length S.tau ≡ suc n) where
  -- at 0 plus at 1 the message is the sum
  pub outer-sum : check_sum (outer_next S) ≡ outer_value S
  outer-sum = element-inj (check_sum (outer_next S)) (outer_value S) (check_sum-lt (outer_next S) (outer_next-below S)) (value-lt S)
      (element-check_sum (outer_next S) ∙ ap (check_sum_e gf128) (O.next-is S T C n left)
      ∙ check_sum-is gf128 gf128_laws ((table_rounds gf128 (outer_cells gf128)).poly T)
      ∙ (table_laws gf128 (outer_cells gf128) gf128_laws (outer_cell_laws gf128 gf128_laws)).poly_sum T ∙ sym (value-is S T C))

  -- at r it is the sum over the bound tables
  pub outer-bound : (r : ℕ) → eval (outer_next S) r ≡ outer_value (outer_fold r S)
  outer-bound r = element-inj (eval (outer_next S) r) (outer_value (outer_fold r S)) (eval-lt (outer_next S) r (outer_next-below S))
      (value-lt (outer_fold r S))
      (element-eval (outer_next S) r ∙ ap (λ (p : List Element). eval_e gf128 p (element r)) (O.next-is S T C n left)
      ∙ (table_laws gf128 (outer_cells gf128) gf128_laws (outer_cell_laws gf128 gf128_laws)).poly_value T (element r)
      ∙ sym (value-is (outer_fold r S) ((table_rounds gf128 (outer_cells gf128)).bind (element r) T) (O.fold-stands S T C n left r)))

-- ---- the inner sum-check
module _ (n : ℕ) (t z : List ℕ) (lt : length t ≡ 2 ^ suc n) (lz : length z ≡ 2 ^ suc n) where
  abbrev state : State gf128 (inner_cells gf128)
  state = record { tops = 0; lows = n; cells = zip_inner gf128 (els t) (els z) }

  inner-value : (t z : List ℕ) → sum_terms gf128 (inner_cells gf128) (zip_inner gf128 (els t) (els z)) ≡ element (dot t z)
  inner-value t z = sum-dot gf128 gf128_laws (els t) (els z) ∙ sym (element-dot t z)

  pub inner-sum : check_sum (inner_message 0 t z) ≡ dot t z
  inner-sum = element-inj (check_sum (inner_message 0 t z)) (dot t z) (check_sum-lt (inner_message 0 t z) (inner_message-below 0 t z))
      (dot-lt t z)
      (element-check_sum (inner_message 0 t z) ∙ ap (check_sum_e gf128) (I.next-is n n t z lt lz)
      ∙ check_sum-is gf128 gf128_laws ((table_rounds gf128 (inner_cells gf128)).poly state)
      ∙ (table_laws gf128 (inner_cells gf128) gf128_laws (inner_cell_laws gf128 gf128_laws)).poly_sum state ∙ inner-value t z)

  pub inner_bound : (r : ℕ) → eval (inner_message 0 t z) r ≡ dot (bind_var 0 r t) (bind_var 0 r z)
  inner_bound r = element-inj (eval (inner_message 0 t z) r) (dot (bind_var 0 r t) (bind_var 0 r z))
      (eval-lt (inner_message 0 t z) r (inner_message-below 0 t z)) (dot-lt (bind_var 0 r t) (bind_var 0 r z))
      (element-eval (inner_message 0 t z) r ∙ ap (λ (p : List Element). eval_e gf128 p (element r)) (I.next-is n n t z lt lz)
      ∙ (table_laws gf128 (inner_cells gf128) gf128_laws (inner_cell_laws gf128 gf128_laws)).poly_value state (element r)
      ∙ ap (sum_terms gf128 (inner_cells gf128)) (I.fold_is n n t z lt lz r) ∙ inner-value (bind_var 0 r t) (bind_var 0 r z))
