-- The combined table at a column point is what its matrices give row by row, so that no table has to be made.
-- Assumes nothing.
use mathlib.Core.Path.{◌≡◌, refl, sym, ap, ap₂, ◌∙◌}
use mathlib.Core.Bool.{cond}
use mathlib.Core.List.{List, [], ◌∷◌, map}
use Prim.Native.Nat.{ℕ, zero, suc, ◌^◌, ◌≤◌}
use native.Mathlib.Nat.{le_of_suc-le-suc}
use native.Mathlib.Omega.{arith}
use lib.Dec.{eqb}
use borrow.Author.Tests.{eq-eqb, ne_eqb}
use lib.ListN.{length, get_or}
use Rattle.magnetar_field.specs.Gf128.{◌⊕◌, ◌⊗◌}
use Rattle.magnetar_field.specs.Tabulate.{tabulate}
use Rattle.magnetar_field.proofs.Xor.{⊕-zero, ⊕-four, zero-⊕}
use Rattle.magnetar_field.proofs.Product.{⊗-comm, ⊗-assoc, ⊗-⊕, ⊕-⊗, ⊗-zero, zero-⊗}
use Rattle.magnetar_field.proofs.Tabulation.{tabulate-get, tabulate-ext}
use Rattle.magnetar_multilinear.specs.EqTable.{eq_table}
use Rattle.magnetar_multilinear.specs.Multilinear.{dot, mle}
use Rattle.magnetar_multilinear.proofs.EqTables.{eq_table-length}
use Rattle.magnetar_matrix.specs.Matrix.{Entry, Matrix, System, sum_over, row_total, share, times_at, times, swapped, transpose, mle_table}
use Rattle.magnetar_matrix.specs.Combined.{combined_table, value_by_rows, combined_by_rows}

-- ---- a table of sums, times a list
dot-none : (n : ℕ) (w : List ℕ) → dot (tabulate (λ _. 0) n) w ≡ 0
unfolding dot tabulate
dot-none zero w = refl
dot-none (suc n) [] = refl
dot-none (suc n) (y ∷ w) = rw (zero-⊗ y, dot-none n w) (zero-⊕ 0)

dot-sum : (f g : ℕ → ℕ) (n : ℕ) (w : List ℕ) → dot (tabulate (λ i. f i ⊕ g i) n) w ≡ dot (tabulate f n) w ⊕ dot (tabulate g n) w
unfolding dot tabulate
dot-sum f g zero w = sym (⊕-zero 0)
dot-sum f g (suc n) [] = sym (⊕-zero 0)
dot-sum f g (suc n) (y ∷ w) =
    ap₂ ◌⊕◌ (⊕-⊗ (f 0) (g 0) y) (dot-sum (λ i. f (suc i)) (λ i. g (suc i)) n w)
    ∙ ⊕-four (f 0 ⊗ y) (g 0 ⊗ y) (dot (tabulate (λ i. f (suc i)) n) w) (dot (tabulate (λ i. g (suc i)) n) w)

dot-times : (c : ℕ) (f : ℕ → ℕ) (n : ℕ) (w : List ℕ) → dot (tabulate (λ i. c ⊗ f i) n) w ≡ c ⊗ dot (tabulate f n) w
unfolding dot tabulate
dot-times c f zero w = sym (⊗-zero c)
dot-times c f (suc n) [] = sym (⊗-zero c)
dot-times c f (suc n) (y ∷ w) =
    ap₂ ◌⊕◌ (⊗-assoc c (f 0) y) (dot-times c (λ i. f (suc i)) n w) ∙ sym (⊗-⊕ c (f 0 ⊗ y) (dot (tabulate (λ i. f (suc i)) n) w))

-- 0 but at index k
all-zero : (f : ℕ → ℕ) (n : ℕ) (w : List ℕ) → ((i : ℕ) → f i ≡ 0) → dot (tabulate f n) w ≡ 0
all-zero f n w z = ap (λ (t : List ℕ). dot t w) (tabulate-ext f (λ _. 0) n (λ i h. z i)) ∙ dot-none n w

dot-one : (f : ℕ → ℕ) (k n : ℕ) (w : List ℕ) → length w ≤ n → ((i : ℕ) → (i ≡ k → ⊥) → f i ≡ 0) → dot (tabulate f n) w ≡ f k ⊗ get_or w k 0
unfolding dot tabulate
dot-one f k zero [] h z = sym (⊗-zero (f k))
dot-one f k zero (y ∷ w) h z = absurd (omega arith)
dot-one f k (suc n) [] h z = sym (⊗-zero (f k))
dot-one f zero (suc n) (y ∷ w) h z =
    ap (λ (x : ℕ). f 0 ⊗ y ⊕ x) (all-zero (λ i. f (suc i)) n w (λ i. z (suc i) (λ e. omega (arith, e)))) ∙ ⊕-zero (f 0 ⊗ y)
dot-one f (suc k) (suc n) (y ∷ w) h z =
    ap₂ ◌⊕◌ (ap (λ (x : ℕ). x ⊗ y) (z 0 (λ e. omega (arith, e))) ∙ zero-⊗ y)
    (dot-one (λ i. f (suc i)) k n w (le_of_suc-le-suc h) (λ i g. z (suc i) (λ e. g (omega (arith, e)))))
    ∙ zero-⊕ (f (suc k) ⊗ get_or w k 0)

-- ---- the product of a matrix with u, times w
-- an entry's value times u at its column and w at its row
abbrev both : (u w : List ℕ) → Entry → ℕ
both u w e = e.value ⊗ get_or u e.col 0 ⊗ get_or w e.row 0

rows-dot : (u w : List ℕ) (es : List Entry) (n : ℕ) → length w ≤ n → dot (tabulate (row_total (share u) es) n) w ≡ sum_over (both u w) es
unfolding row_total sum_over share
rows-dot u w [] n h = dot-none n w
rows-dot u w (e ∷ es) n h =
    let x = e.value ⊗ get_or u e.col 0 in
    let f : ℕ → ℕ = λ i. cond (eqb e.row i) x 0 in
    let one : dot (tabulate f n) w ≡ x ⊗ get_or w e.row 0 =
    dot-one f e.row n w h (λ i g. rw (ne_eqb e.row i (λ q. g (sym q)))) ∙ rw (eq-eqb e.row e.row refl) in
    dot-sum f (row_total (share u) es) n w ∙ ap₂ ◌⊕◌ one (rows-dot u w es n h)

-- by rows and by columns
exchanged : (u w : List ℕ) (es : List Entry) → sum_over (both u w) (map swapped es) ≡ sum_over (both w u) es
unfolding sum_over
exchanged u w [] = refl
exchanged u w (e ∷ es) =
    let a = get_or u e.row 0 in
    let b = get_or w e.col 0 in
    let one : e.value ⊗ a ⊗ b ≡ e.value ⊗ b ⊗ a = ⊗-assoc e.value a b ∙ (ap (λ (x : ℕ). e.value ⊗ x) (⊗-comm a b) ∙ sym (⊗-assoc e.value b a)) in
    ap₂ ◌⊕◌ one (exchanged u w es)

-- ---- one matrix
-- it has m columns, and a row and a column for each bit string of its points p and y
pub record Spans (m : ℕ) (p y : List ℕ) (a : Matrix) : Type 0 where
  pub rows : 2 ^ length p ≤ a.rows
  pub wide : a.cols ≡ m
  pub cols : 2 ^ length y ≤ m

-- its table at the row point p, at the column point c
table_at : (m : ℕ) (p c : List ℕ) (a : Matrix) → Spans m p c a → dot (tabulate (λ y. get_or (mle_table a p) y 0) m) (eq_table c) ≡ value_by_rows a p c
unfolding mle mle_table times times_at transpose value_by_rows
table_at m p c a z =
    let es = map swapped a.entries in
    let same : tabulate (λ y. get_or (tabulate (row_total (share (eq_table p)) es) a.cols) y 0) m ≡ tabulate (row_total (share (eq_table p)) es) m =
    tabulate-ext _ _ m (λ y h. tabulate-get (row_total (share (eq_table p)) es) a.cols y 0 (rw z.wide h)) in
    ap (λ (t : List ℕ). dot t (eq_table c)) same
    ∙ (rows-dot (eq_table p) (eq_table c) es m (rw (eq_table-length c) z.cols)
    ∙ (exchanged (eq_table p) (eq_table c) a.entries
    ∙ sym (rows-dot (eq_table c) (eq_table p) a.entries a.rows (rw (eq_table-length p) z.rows))))

-- ---- six of them
-- tables combined, times w
tables-dot : (al : List ℕ) (ts : List (List ℕ)) (m : ℕ) (w : List ℕ)
    → dot (tabulate (λ y. dot al (map (λ (t : List ℕ). get_or t y 0) ts)) m) w ≡ dot al (map (λ (t : List ℕ). dot (tabulate (λ y. get_or t y 0) m) w) ts)
unfolding dot
tables-dot [] ts m w = dot-none m w
tables-dot (a ∷ al) [] m w = dot-none m w
tables-dot (a ∷ al) (t ∷ ts) m w =
    dot-sum (λ y. a ⊗ get_or t y 0) (λ y. dot al (map (λ (t : List ℕ). get_or t y 0) ts)) m w
    ∙ ap₂ ◌⊕◌ (dot-times a (λ y. get_or t y 0) m w) (tables-dot al ts m w)

-- the three matrices of a system
pub record SystemSpans (m : ℕ) (p y : List ℕ) (s : System) : Type 0 where
  pub a : Spans m p y s.a
  pub b : Spans m p y s.b
  pub c : Spans m p y s.c

-- the combined table at a column point, row by row
pub combined-by-rows : (m : ℕ) (s t : System) (al p r c : List ℕ) → SystemSpans m p c s → SystemSpans m r c t
    → mle (combined_table m s t al p r) c ≡ combined_by_rows s t al p r c
unfolding mle combined_table combined_by_rows
combined-by-rows m s t al p r c x y =
    tables-dot al (mle_table s.a p ∷ mle_table s.b p ∷ mle_table s.c p ∷ mle_table t.a r ∷ mle_table t.b r ∷ mle_table t.c r ∷ []) m (eq_table c)
    ∙ rw (
      table_at m p c s.a x.a,
      table_at m p c s.b x.b,
      table_at m p c s.c x.c,
      table_at m r c t.a y.a,
      table_at m r c t.b y.b,
      table_at m r c t.c y.c,
    )
