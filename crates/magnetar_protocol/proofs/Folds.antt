-- The folded bits and the folded public halves are the theory's: the logins' rows, weighted by eq(r_inst, u).
-- Assumes nothing.
use mathlib.Core.Path.{◌≡◌, sym, ap, ◌∙◌}
use mathlib.Core.List.{List, [], ◌∷◌, map, reverse}
use Prim.Native.Nat.{ℕ, ◌/◌, ◌^◌, ◌<◌}
use native.Mathlib.Omega.{arith}
use lib.ListN.{length, get_or, length-map, length-reverse}
use lib.Seq.{ext_get_or}
use Rattle.magnetar_field.specs.Gf128.{◌⊗◌}
use Rattle.magnetar_field.specs.Tabulate.{tabulate}
use Rattle.magnetar_field.proofs.Tabulation.{tabulate-length, tabulate-get}
use Rattle.magnetar_multilinear.specs.EqTable.{eq_at}
use Rattle.magnetar_matrix.specs.Sum.{sum_below}
use Rattle.magnetar_matrix.specs.Batch.{Relation, Batch, PublicColumns, public_half, bit_of, folded_at, folded, public_folded_at, public_folded}
use Rattle.magnetar_theory.specs.EqTable.{eq_table as eq_table_e}
use Rattle.magnetar_theory.specs.Matrix.{fold, AllLength}
use Rattle.magnetar_theory.specs.Run.{folded_half}
use Rattle.magnetar_theory.specs.Gf128.{Element, element, gf128}
use Rattle.magnetar_theory.proofs.Gf128.{gf128_laws}
use Rattle.magnetar_theory.proofs.Matrix.{length-fold}
use Rattle.magnetar_protocol.specs.Draws.{Draws, login_point}
use Rattle.magnetar_protocol.specs.Theory.{els, log_half, relation_e, public_e, batch_e}
use Rattle.magnetar_protocol.specs.RunSizes.{SizedRelation, SizedBatch, SizedPublic}
use Rattle.magnetar_protocol.proofs.Elements.{map-reverse, els-at}
use Rattle.magnetar_protocol.proofs.ClaimValues.{map_at, eq-dot}
use Rattle.magnetar_protocol.proofs.Combined.{fold_at}
use Rattle.magnetar_protocol.proofs.SizeFacts.{half_pow, Cut}
use Rattle.magnetar_protocol.proofs.TrueClaims.{row_lengths, half_lengths}

-- sums over q logins, n columns of them, are the weighted sum of the logins' rows
pub fold_is : (n q : ℕ) (p : List ℕ) (f : ℕ → ℕ → ℕ) (zs : List (List Element)) → q ≡ 2 ^ length p → length zs ≡ q → AllLength gf128 n zs
    → ((u y : ℕ) → u < q → get_or (get_or zs u []) y (element 0) ≡ element (f u y))
    → els (tabulate (λ y. sum_below q (λ u. eq_at p u ⊗ f u y)) n) ≡ fold gf128 n (eq_table_e gf128 (els p)) zs
fold_is n q p f zs many long all at =
    ext_get_or (element 0) (els (tabulate g n)) (fold gf128 n (eq_table_e gf128 (els p)) zs)
    (size ∙ sym (length-fold gf128 gf128_laws n (eq_table_e gf128 (els p)) zs all))
    (λ y h. els-at (tabulate g n) y ∙ ap element (tabulate-get g n y 0 (rw size at h)) ∙ sym (column y))
  where
    g : ℕ → ℕ
    g y = sum_below q (λ u. eq_at p u ⊗ f u y)

    size : length (els (tabulate g n)) ≡ n
    size = length-map (tabulate g n) element ∙ tabulate-length g n

    column : (y : ℕ) → get_or (fold gf128 n (eq_table_e gf128 (els p)) zs) y (element 0) ≡ element (g y)
    column y =
        fold_at n (eq_table_e gf128 (els p)) zs y
        ∙ eq-dot p (map (λ (z : List Element). get_or z y (element 0)) zs) q (λ u. f u y) many
        (length-map zs (λ (z : List Element). get_or z y (element 0)) ∙ long)
        (λ u h. map_at (λ (z : List Element). get_or z y (element 0)) zs u (element 0) [] (rw long h) ∙ at u y h)

module _ (r : Relation) (D : Draws) (R : SizedRelation r) (C : Cut r D) where
  logins-pow : r.q ≡ 2 ^ length (reverse D.shared)
  logins-pow = R.logins.power ∙ ap (λ (k : ℕ). 2 ^ k) (sym C.shared ∙ sym (length-reverse D.shared))

  -- at the login point, m / 2 columns
  fold-at-point : (f : ℕ → ℕ → ℕ) (zs : List (List Element)) → length zs ≡ r.q → AllLength gf128 (2 ^ log_half r) zs
      → ((u y : ℕ) → u < r.q → get_or (get_or zs u []) y (element 0) ≡ element (f u y))
      → els (tabulate (λ y. sum_below r.q (λ u. eq_at (login_point D) u ⊗ f u y)) (r.m / 2))
      ≡ fold gf128 (2 ^ log_half r) (eq_table_e gf128 (reverse (els D.shared))) zs
  unfolding login_point
  fold-at-point f zs long all at =
      ap (λ (n : ℕ). els (tabulate (λ y. sum_below r.q (λ u. eq_at (reverse D.shared) u ⊗ f u y)) n)) (half_pow r R)
      ∙ fold_is (2 ^ log_half r) r.q (reverse D.shared) f zs logins-pow long all at
      ∙ ap (λ (p : List Element). fold gf128 (2 ^ log_half r) (eq_table_e gf128 p) zs) (map-reverse element D.shared)

  pub bits-folded : (b : Batch) → SizedBatch r b
      → els (folded r.q (r.m / 2) b (login_point D)) ≡ fold gf128 (2 ^ log_half r) (eq_table_e gf128 (reverse (els D.shared))) (batch_e b)
  unfolding folded folded_at bit_of
  bits-folded b B = fold-at-point (bit_of b) (batch_e b) (length-map b els ∙ B.logins) (row_lengths r R b B)
      (λ u y h. ap (λ (z : List Element). get_or z y (element 0)) (map_at els b u [] [] (omega (arith, B.logins))) ∙ els-at (get_or b u []) y)

  pub halves-folded : (x : PublicColumns) → SizedPublic r x
      → els (public_folded r.q (r.m / 2) x (login_point D)) ≡ folded_half gf128 (relation_e r) (public_e x) (els D.shared)
  unfolding public_folded public_folded_at
  halves-folded x X = fold-at-point (λ u y. get_or (public_half x u) y 0) (public_e x) (length-map x (λ c. els (1 ∷ c)) ∙ X.logins) (half_lengths r R x X)
      (λ u y h. ap (λ (z : List Element). get_or z y (element 0)) (map_at (λ (c : List ℕ). els (1 ∷ c)) x u [] [] (omega (arith, X.logins)))
      ∙ els-at (public_half x u) y)
