-- The column table that the verifier combines is the theory's: a weighted sum of the six tables.
-- Assumes nothing.
use mathlib.Core.Path.{◌≡◌, refl, sym, ap, ap₂, ◌∙◌}
use mathlib.Core.List.{List, [], ◌∷◌, map}
use Prim.Native.Nat.{ℕ, zero, suc, ◌^◌, ◌<◌}
use lib.ListN.{length, get_or, replicate, length-map}
use lib.Seq.{ext_get_or}
use Rattle.magnetar_multilinear.specs.Multilinear.{dot}
use Rattle.magnetar_field.proofs.Tabulation.{tabulate-length, tabulate-get}
use Rattle.magnetar_matrix.specs.Matrix.{Matrix, mle_table}
use Rattle.magnetar_matrix.specs.Batch.{Relation}
use Rattle.magnetar_matrix.specs.Combined.{combined_table}
use Rattle.magnetar_theory.specs.SumCheck.{add_lists}
use Rattle.magnetar_theory.specs.EqTable.{eq_table as eq_table_e, dot as dot_e, scale}
use Rattle.magnetar_theory.specs.Matrix.{fold, columns}
use Rattle.magnetar_theory.specs.Run.{six, combo}
use Rattle.magnetar_theory.specs.Gf128.{Element, element, element_sum, gf128}
use Rattle.magnetar_theory.proofs.Gf128.{gf128_laws}
use Rattle.magnetar_theory.proofs.Matrix.{length-fold, length-columns}
use Rattle.magnetar_sumcheck_verifier.proofs.EqPairs.{get_d-scale}
use Rattle.magnetar_protocol.specs.Theory.{els, log_half, entries_e, relation_e}
use Rattle.magnetar_protocol.specs.Draws.{Draws}
use Rattle.magnetar_protocol.specs.Checks.{combined}
use Rattle.magnetar_protocol.specs.RunSizes.{SizedRelation}
use Rattle.magnetar_protocol.proofs.Elements.{els-at, element-dot}
use Rattle.magnetar_protocol.proofs.Products.{table_at, zero-sum}
use Rattle.magnetar_protocol.proofs.SizeFacts.{cols-pow}

get_d-zeros : (n i : ℕ) → get_or (replicate n (element 0)) i (element 0) ≡ element 0
get_d-zeros zero i = refl
get_d-zeros (suc n) zero = refl
get_d-zeros (suc n) (suc i) = get_d-zeros n i

get_d-add : (p q : List Element) (i : ℕ) → get_or (add_lists gf128 p q) i (element 0) ≡ element_sum (get_or p i (element 0)) (get_or q i (element 0))
get_d-add [] q i = zero-sum (get_or q i (element 0))
get_d-add (c ∷ p) [] i = sym (gf128_laws.is-ring.add-zero (get_or (c ∷ p) i (element 0)))
get_d-add (c ∷ p) (d ∷ q) zero = refl
get_d-add (c ∷ p) (d ∷ q) (suc i) = get_d-add p q i

-- entry i of a weighted sum of vectors
pub fold_at : (n : ℕ) (es : List Element) (zs : List (List Element)) (i : ℕ)
    → get_or (fold gf128 n es zs) i (element 0) ≡ dot_e gf128 es (map (λ (z : List Element). get_or z i (element 0)) zs)
fold_at n [] zs i = get_d-zeros n i
fold_at n (e ∷ es) [] i = get_d-zeros n i
fold_at n (e ∷ es) (z ∷ zs) i =
    get_d-add (scale gf128 e z) (fold gf128 n es zs) i ∙ ap₂ element_sum (get_d-scale gf128 gf128_laws e z i) (fold_at n es zs i)

module _ (r : Relation) (D : Draws) (R : SizedRelation r) where
  abbrev n : ℕ
  n = 2 ^ suc (log_half r)

  size : (m : Matrix) (p : List ℕ) → length (columns gf128 n (entries_e m) (eq_table_e gf128 (els p))) ≡ n
  size m p = length-columns gf128 gf128_laws n (entries_e m) (eq_table_e gf128 (els p))

  at : (m : Matrix) (p : List ℕ) (y : ℕ) → m.cols ≡ r.m → y < n
      → get_or (columns gf128 n (entries_e m) (eq_table_e gf128 (els p))) y (element 0) ≡ element (get_or (mle_table m p) y 0)
  at m p y e h = table_at n m p y (e ∙ cols-pow r R) h

  pub combined-length : length (combined r D) ≡ n
  unfolding combined combined_table
  combined-length = tabulate-length _ r.m ∙ cols-pow r R

  pub combined-is : els (combined r D) ≡ combo gf128 (relation_e r) (els D.row_bin) (els D.row_fld) (els D.alphas)
  combined-is = ext_get_or (element 0) (els (combined r D)) (fold gf128 n (els D.alphas) tables) (long ∙ sym all) each
    where
      tables : List (List Element)
      tables = six gf128 (relation_e r) (els D.row_bin) (els D.row_fld)

      long : length (els (combined r D)) ≡ n
      long = length-map (combined r D) element ∙ combined-length

      all : length (fold gf128 n (els D.alphas) tables) ≡ n
      all = length-fold gf128 gf128_laws n (els D.alphas) tables (
        size r.bin.a D.row_bin,
        (
          size r.bin.b D.row_bin,
          (
            size r.bin.c D.row_bin,
            (
              size r.fld.a D.row_fld,
              (size r.fld.b D.row_fld, (size r.fld.c D.row_fld, tt)),
            ),
          ),
        ),
      )

      entries : ℕ → List ℕ
      entries y = get_or (mle_table r.bin.a D.row_bin) y 0 ∷ get_or (mle_table r.bin.b D.row_bin) y 0
          ∷ get_or (mle_table r.bin.c D.row_bin) y 0 ∷ get_or (mle_table r.fld.a D.row_fld) y 0
          ∷ get_or (mle_table r.fld.b D.row_fld) y 0 ∷ get_or (mle_table r.fld.c D.row_fld) y 0 ∷ []

      value : (y : ℕ) → y < r.m → get_or (combined r D) y 0 ≡ dot D.alphas (entries y)
      value y h = unfold combined combined_table in tabulate-get (λ y. dot D.alphas (entries y)) r.m y 0 h

      each : (y : ℕ) → y < length (els (combined r D)) → get_or (els (combined r D)) y (element 0)
          ≡ get_or (fold gf128 n (els D.alphas) tables) y (element 0)
      each y h =
          let k : y < n = rw long at h in
          els-at (combined r D) y ∙ ap element (value y (rw (cols-pow r R) k)) ∙ element-dot D.alphas (entries y)
          ∙ sym (fold_at n (els D.alphas) tables y
          ∙ (λ i. dot_e gf128 (els D.alphas) (at r.bin.a D.row_bin y R.bin.a.cols k i
          ∷ at r.bin.b D.row_bin y R.bin.b.cols k i
          ∷ at r.bin.c D.row_bin y R.bin.c.cols k i ∷ at r.fld.a D.row_fld y R.fld.a.cols k i
          ∷ at r.fld.b D.row_fld y R.fld.b.cols k i ∷ at r.fld.c D.row_fld y R.fld.c.cols k i ∷ [])))
