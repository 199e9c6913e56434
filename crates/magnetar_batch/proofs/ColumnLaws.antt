-- Six columns added up are the combined table.
-- Assumes nothing.
use Rattle.std.specs.Prelude.{◌≡◌, ℕ, ◌+◌, ◌/◌, ◌<◌, Bool, true, false, cond, eqb, List, [], ◌∷◌, length, get_or, replicate}
use mathlib.Core.Path.{refl, sym, ap, ◌∙◌}
use native.Mathlib.Omega.{arith}
use lib.ListN.{length-replicate, get_or-replicate}
use Rattle.magnetar_field.specs.Gf128.{◌⊕◌, ◌⊗◌}
use Rattle.magnetar_field.specs.Words.{elements}
use Rattle.magnetar_multilinear.specs.EqTable.{eq_table, eq_table_from}
use Rattle.magnetar_multilinear.specs.Multilinear.{dot}
use Rattle.magnetar_field.proofs.Elements.{elements-length}
use Rattle.magnetar_field.proofs.Xor.{xor}
use Rattle.magnetar_field.proofs.Product.{⊗-left-comm, ⊗-⊕, ⊗-zero}
use Rattle.magnetar_field.proofs.Tabulation.{tabulate-get, tabulate-of}
use Rattle.magnetar_multilinear.proofs.EqTables.{from-get}
use Rattle.magnetar_layout.specs.Tests.{Sized}
use Rattle.magnetar_matrix.specs.Matrix.{Entry, Matrix, System, sum_over, row_total, share, times_at, times, transpose, mle_table}
use Rattle.magnetar_matrix.specs.Table.{raised}
use Rattle.magnetar_matrix.proofs.TableLaws.{raised-length, raised-get}
use Rattle.magnetar_matrix.specs.Combined.{combined_table}
use Rattle.magnetar_batch.proofs.TableWalk.{column_of, three_raised}

-- ---- the start in front
share_from : (c : ℕ) (p : List ℕ) (e : Entry) → share (eq_table_from c p) e ≡ c ⊗ share (eq_table p) e
unfolding share
share_from c p e = rw (from-get c p e.col) (⊗-left-comm e.value c (get_or (eq_table p) e.col 0))

cond-⊗ : (b : Bool) (c a : ℕ) → cond b (c ⊗ a) 0 ≡ c ⊗ cond b a 0
cond-⊗ true c a = refl
cond-⊗ false c a = sym (⊗-zero c)

one_from : (b : Bool) (c a t rest : ℕ) → a ≡ c ⊗ t → cond b a 0 ⊕ c ⊗ rest ≡ c ⊗ (cond b t 0 ⊕ rest)
one_from b c a t rest e = rw (e, cond-⊗ b c t) (sym (⊗-⊕ c (cond b t 0) rest))

total-from : (c : ℕ) (p : List ℕ) (es : List Entry) (y : ℕ) → row_total (share (eq_table_from c p)) es y ≡ c ⊗ row_total (share (eq_table p)) es y
unfolding row_total sum_over
total-from c p [] y = sym (⊗-zero c)
total-from c p (e ∷ es) y =
    rw (total-from c p es y)
    (one_from (eqb e.row y) c (share (eq_table_from c p) e) (share (eq_table p) e) (row_total (share (eq_table p)) es y) (share_from c p e))

column-is : (c m : ℕ) (p : List ℕ) (a : Matrix) (y : ℕ) → a.cols ≡ m → y < m → column_of c p a.entries y ≡ c ⊗ get_or (mle_table a (elements p)) y 0
unfolding mle_table times times_at transpose
column-is c m p a y e h =
    total-from c (elements p) (transpose a).entries y
    ∙ rw (tabulate-get (times_at (transpose a) (eq_table (elements p))) a.cols y 0 (rw e h))

-- ---- three of them
three-length : (al : List ℕ) (k : ℕ) (p : List ℕ) (t : System) (u : List ℕ) → length (three_raised al k p t u) ≡ length u
three-length al k p t u = rw (raised-length, raised-length, raised-length)

-- a system with a size of rows, over m columns
pub record Wide (m : ℕ) (s : System) : Type 0 where
  pub rows : Sized 1 65536 s.a.rows
  pub a : s.a.cols ≡ m
  pub b : s.b.cols ≡ m
  pub c : s.c.cols ≡ m

-- alpha k times column y of a matrix's table at the row point p
abbrev term : List ℕ → ℕ → List ℕ → Matrix → ℕ → ℕ
term al k p a y = get_or (elements al) k 0 ⊗ get_or (mle_table a (elements p)) y 0

three-at : (m : ℕ) (al : List ℕ) (k : ℕ) (p : List ℕ) (t : System) (u : List ℕ) (y : ℕ) → Wide m t → length u ≡ m → y < m
    → get_or (three_raised al k p t u) y 0 ≡ ((get_or u y 0 ⊕ term al k p t.a y) ⊕ term al (k + 1) p t.b y) ⊕ term al (k + 2) p t.c y
three-at m al k p t u y w l h =
    let f = column_of (get_or (elements al) k 0) p t.a.entries in
    let g = column_of (get_or (elements al) (k + 1) 0) p t.b.entries in
    let i = column_of (get_or (elements al) (k + 2) 0) p t.c.entries in
    rw (
      raised-get i (raised g (raised f u)) y (rw (raised-length, raised-length, l) h),
      raised-get g (raised f u) y (rw (raised-length, l) h),
      raised-get f u y (rw l h),
      column-is (get_or (elements al) k 0) m p t.a y w.a h,
      column-is (get_or (elements al) (k + 1) 0) m p t.b y w.b h,
      column-is (get_or (elements al) (k + 2) 0) m p t.c y w.c h,
    )

-- ---- six of them
pub dot-six : (al : List ℕ) (a b c d e f : ℕ) → length al ≡ 6
    → dot al (a ∷ b ∷ c ∷ d ∷ e ∷ f ∷ [])
    ≡ get_or al 0 0 ⊗ a ⊕ (get_or al 1 0 ⊗ b ⊕ (get_or al 2 0 ⊗ c ⊕ (get_or al 3 0 ⊗ d ⊕ (get_or al 4 0 ⊗ e ⊕ (get_or al 5 0 ⊗ f ⊕ 0)))))
unfolding dot
dot-six (u ∷ v ∷ w ∷ x ∷ y ∷ z ∷ []) a b c d e f l = refl
dot-six [] a b c d e f l = absurd (omega arith)
dot-six (u ∷ []) a b c d e f l = absurd (omega arith)
dot-six (u ∷ v ∷ []) a b c d e f l = absurd (omega arith)
dot-six (u ∷ v ∷ w ∷ []) a b c d e f l = absurd (omega arith)
dot-six (u ∷ v ∷ w ∷ x ∷ []) a b c d e f l = absurd (omega arith)
dot-six (u ∷ v ∷ w ∷ x ∷ y ∷ []) a b c d e f l = absurd (omega arith)
dot-six (u ∷ v ∷ w ∷ x ∷ y ∷ z ∷ t ∷ al) a b c d e f l = absurd (omega arith)

six-sorted : (a b c d e f : ℕ) → (((((0 ⊕ a) ⊕ b) ⊕ c) ⊕ d) ⊕ e) ⊕ f ≡ a ⊕ (b ⊕ (c ⊕ (d ⊕ (e ⊕ (f ⊕ 0)))))
six-sorted a b c d e f = simp xor

pub combined-is : (m : ℕ) (s t : System) (al p r : List ℕ) → Wide m s → Wide m t → length al ≡ 12
    → three_raised al 3 r t (three_raised al 0 p s (replicate m 0)) ≡ combined_table m s t (elements al) (elements p) (elements r)
unfolding combined_table
combined-is m s t al p r ws wt l =
    let z = replicate {A = ℕ} m 0 in
    let lz : length z ≡ m = length-replicate m 0 in
    let u = three_raised al 0 p s z in
    let lu : length u ≡ m = three-length al 0 p s z ∙ lz in
    let six : length (elements al) ≡ 6 = elements-length al ∙ ap (λ (n : ℕ). n / 2) l in
    tabulate-of (three_raised al 3 r t u) _ m 0 (three-length al 3 r t u ∙ lu)
    (λ y h. three-at m al 3 r t u y wt lu h ∙ rw (three-at m al 0 p s z y ws lz h, get_or-replicate {A = ℕ} m y 0 0 h)
    (six-sorted (term al 0 p s.a y) (term al 1 p s.b y) (term al 2 p s.c y) (term al 3 r t.a y) (term al 4 r t.b y) (term al 5 r t.c y)
    ∙ sym (dot-six (elements al) _ _ _ _ _ _ six)))
