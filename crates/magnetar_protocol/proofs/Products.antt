-- The products of matrices and vectors over numbers are those of the theory, row by row, and so are the column sums.
-- Assumes nothing.
use mathlib.Core.Path.{◌≡◌, refl, sym, ap, ap₂, ◌∙◌, subst}
use mathlib.Core.Bool.{Bool, true, false, cond}
use mathlib.Core.List.{List, [], ◌∷◌, map}
use Prim.Native.Nat.{ℕ, zero, suc, ◌^◌, ◌<◌}
use native.Mathlib.Omega.{arith}
use lib.Dec.{eqb}
use lib.ListN.{length, get_or, get_or-replicate}
use lib.Pow.{pow_pos}
use borrow.Author.Tests.{eqb-true, eqb-false}
use Rattle.magnetar_field.specs.Gf128.{◌⊗◌}
use Rattle.magnetar_multilinear.specs.EqTable.{eq_table}
use Rattle.magnetar_field.proofs.Xor.{⊕-lt}
use Rattle.magnetar_field.proofs.Product.{⊗-lt}
use Rattle.magnetar_field.proofs.Tabulation.{tabulate-get}
use Rattle.magnetar_matrix.specs.Matrix.{Entry, Matrix, sum_over, row_total, share, times_at, times, swapped, transpose, mle_table}
use Rattle.magnetar_theory.specs.EqTable.{eq_table as eq_table_e}
use Rattle.magnetar_theory.specs.Matrix.{add_at, apply, columns}
use Rattle.magnetar_theory.specs.Gf128.{Element, element, element_sum, element_product, gf128}
use Rattle.magnetar_theory.proofs.Gf128.{element-⊕, element-⊗, gf128_laws}
use Rattle.magnetar_theory.proofs.Matrix.{length-apply}
use Rattle.magnetar_sumcheck_verifier.proofs.OuterRun.{element-eq_table}
use Rattle.magnetar_protocol.specs.Theory.{els, entry_e, entries_e}
use Rattle.magnetar_protocol.proofs.Elements.{els-at}

-- entry i after v is added at entry k
added-here : (k : ℕ) (v : Element) (t : List Element) → k < length t → get_or (add_at gf128 k v t) k (element 0) ≡ element_sum v (get_or t k (element 0))
added-here k v [] h = absurd (omega arith)
added-here zero v (x ∷ t) h = gf128_laws.is-ring.add_comm x v
added-here (suc k) v (x ∷ t) h = added-here k v t (omega arith)

added-elsewhere : (k i : ℕ) (v : Element) (t : List Element) → (k ≡ i → ⊥) → get_or (add_at gf128 k v t) i (element 0) ≡ get_or t i (element 0)
added-elsewhere k i v [] n = refl
added-elsewhere zero zero v (x ∷ t) n = absurd (n refl)
added-elsewhere zero (suc i) v (x ∷ t) n = refl
added-elsewhere (suc k) zero v (x ∷ t) n = refl
added-elsewhere (suc k) (suc i) v (x ∷ t) n = added-elsewhere k i v t (λ e. n (ap suc e))

pub zero-sum : (y : Element) → y ≡ element_sum (element 0) y
zero-sum y = sym (gf128_laws.is-ring.add-zero y) ∙ gf128_laws.is-ring.add_comm y (element 0)

added : (k i : ℕ) (v : Element) (t : List Element) → i < length t
    → get_or (add_at gf128 k v t) i (element 0) ≡ element_sum (cond (eqb k i) v (element 0)) (get_or t i (element 0))
added k i v t h = go (eqb k i) refl
  where
    go : (p : Bool) → eqb k i ≡ p → get_or (add_at gf128 k v t) i (element 0) ≡ element_sum (cond p v (element 0)) (get_or t i (element 0))
    go true e = subst (λ (j : ℕ). get_or (add_at gf128 k v t) j (element 0) ≡ element_sum v (get_or t j (element 0))) (eqb-true k i e)
        (added-here k v t (omega (arith, eqb-true k i e)))
    go false e = added-elsewhere k i v t (eqb-false k i e) ∙ zero-sum (get_or t i (element 0))

element-cond : (p : Bool) (n : ℕ) → element (cond p n 0) ≡ cond p (element n) (element 0)
element-cond true n = refl
element-cond false n = refl

-- row i of the product of n rows
pub apply_at : (n : ℕ) (es : List Entry) (z : List ℕ) (i : ℕ) → i < n
    → get_or (apply gf128 n (map entry_e es) (els z)) i (element 0) ≡ element (row_total (share z) es i)
unfolding row_total sum_over share
apply_at n [] z i h = get_or-replicate n i (element 0) (element 0) h
apply_at n (e ∷ es) z i h =
    added e.row i (element_product (element e.value) (get_or (els z) e.col (element 0))) (apply gf128 n (map entry_e es) (els z)) small
    ∙ ap₂ element_sum (sym (element-cond (eqb e.row i) (e.value ⊗ get_or z e.col 0)
    ∙ ap (λ (v : Element). cond (eqb e.row i) v (element 0)) value)) (apply_at n es z i h)
    ∙ sym (element-⊕ (cond (eqb e.row i) (e.value ⊗ get_or z e.col 0) 0) (row_total (share z) es i))
  where
    small : i < length (apply gf128 n (map entry_e es) (els z))
    small = rw (length-apply gf128 gf128_laws n (map entry_e es) (els z)) h

    value : element (e.value ⊗ get_or z e.col 0) ≡ element_product (element e.value) (get_or (els z) e.col (element 0))
    value = element-⊗ e.value (get_or z e.col 0) ∙ ap (element_product (element e.value)) (sym (els-at z e.col))

pub times-at : (n : ℕ) (m : Matrix) (z : List ℕ) (i : ℕ) → i < n
    → get_or (apply gf128 n (entries_e m) (els z)) i (element 0) ≡ element (times_at m z i)
unfolding times_at
times-at n m z i h = apply_at n m.entries z i h

-- the column sums are the product with the transpose
pub columns-swapped : (n : ℕ) (es : List Entry) (e : List Element)
    → columns gf128 n (map entry_e es) e ≡ apply gf128 n (map entry_e (map swapped es)) e
columns-swapped n [] e = refl
columns-swapped n (x ∷ es) e = ap (add_at gf128 x.col (element_product (element x.value) (get_or e x.row (element 0))))
    (columns-swapped n es e)

-- entry y of the table of the matrix at the row point p, of n columns
pub table_at : (n : ℕ) (m : Matrix) (p : List ℕ) (y : ℕ) → m.cols ≡ n → y < n
    → get_or (columns gf128 n (entries_e m) (eq_table_e gf128 (els p))) y (element 0) ≡ element (get_or (mle_table m p) y 0)
unfolding mle_table times transpose times_at
table_at n m p y e h =
    ap (λ (t : List Element). get_or t y (element 0)) (ap (columns gf128 n (entries_e m)) (sym (element-eq_table p))
    ∙ columns-swapped n m.entries (els (eq_table p)))
    ∙ apply_at n (map swapped m.entries) (eq_table p) y h
    ∙ ap element (sym (tabulate-get (times_at (transpose m) (eq_table p)) m.cols y 0 (omega arith)))

-- ---- bounds
sum_over-lt : (f : Entry → ℕ) → ((e : Entry) → f e < 2 ^ 128) → (es : List Entry) → sum_over f es < 2 ^ 128
unfolding sum_over
sum_over-lt f h [] = pow_pos 128
sum_over-lt f h (e ∷ es) = ⊕-lt 128 (f e) (sum_over f es) (h e) (sum_over-lt f h es)

cond-lt : (p : Bool) (n : ℕ) → n < 2 ^ 128 → cond p n 0 < 2 ^ 128
cond-lt true n h = h
cond-lt false n h = pow_pos 128

pub times_at-lt : (m : Matrix) (z : List ℕ) (i : ℕ) → times_at m z i < 2 ^ 128
unfolding times_at row_total share
times_at-lt m z i = sum_over-lt _ (λ e. cond-lt (eqb e.row i) (e.value ⊗ get_or z e.col 0) (⊗-lt e.value (get_or z e.col 0)))
    m.entries
