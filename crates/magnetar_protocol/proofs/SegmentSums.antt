-- The sum over the segments, each value times eq of its place, is the theory's.
-- Assumes nothing.
use mathlib.Core.Path.{◌≡◌, sym, ap, ap₂, ◌∙◌}
use mathlib.Core.List.{List, [], ◌∷◌}
use Prim.Native.Nat.{ℕ, suc, ◌+◌, ◌-◌, ◌*◌, ◌/◌, ◌^◌, ◌≤◌, ◌<◌}
use native.Mathlib.Nat.{two-pow-succ, div-lt_iff_lt-mul, lt_of_not-le}
use native.Mathlib.Omega.{arith}
use lib.ListN.{length, get_or, drop, drop_of_length-le, length-drop}
use lib.Seq.{drop-cons}
use lib.Pow.{pow_pos, pow_mono, pow-add}
use Rattle.magnetar_field.specs.Sizes.{log₂}
use Rattle.magnetar_multilinear.specs.EqTable.{eq_at, eq_table}
use Rattle.magnetar_multilinear.proofs.EqTables.{eq_table-get}
use Rattle.magnetar_matrix.specs.Batch.{Relation}
use Rattle.magnetar_layout.specs.Layout.{offsets, offset, local_vars, suffix}
use Rattle.magnetar_theory.specs.EqTable.{eq_table as eq_table_e}
use Rattle.magnetar_theory.specs.Run.{seg_sum}
use Rattle.magnetar_theory.specs.Gf128.{Element, element, element_sum, element_product, gf128}
use Rattle.magnetar_theory.proofs.Gf128.{element-⊕, element-⊗}
use Rattle.magnetar_sumcheck_verifier.proofs.OuterRun.{element-eq_table}
use Rattle.magnetar_protocol.specs.Theory.{els, log_half, segments_e}
use Rattle.magnetar_protocol.specs.Draws.{Draws, low_point}
use Rattle.magnetar_protocol.specs.Checks.{segment_sum}
use Rattle.magnetar_protocol.specs.RunSizes.{SizedRelation}
use Rattle.magnetar_protocol.proofs.Elements.{els-at, map-drop}
use Rattle.magnetar_layout.proofs.Places.{placed}
use Rattle.magnetar_layout.proofs.Laid.{offsets-length}
use Rattle.magnetar_protocol.proofs.SizeFacts.{half_pow, Cut, low_size}

-- 2 ^ k at most 2 ^ h
pub pow-le : (k h : ℕ) → 2 ^ k ≤ 2 ^ h → k ≤ h
pow-le k h e = go (lt_of_not-le (λ b. omega (arith, pow_mono {i = suc h} {j = k} b, two-pow-succ h, pow_pos h)))
  where
    go : k < suc h → k ≤ h
    go b = omega arith

-- eq of a segment's place
place_at : (low : List ℕ) (k o n h : ℕ) → length low ≡ h → n ≡ 2 ^ k → o + n ≤ 2 ^ h → 0 < n
    → get_or (eq_table_e gf128 (drop k (els low))) (o / n) (element 0) ≡ element (eq_at (drop k low) (o / n))
place_at low k o n h l e f p =
    ap (λ (t : List Element). get_or (eq_table_e gf128 t) (o / n) (element 0)) (sym (map-drop element k low))
    ∙ ap (λ (t : List Element). get_or t (o / n) (element 0)) (sym (element-eq_table (drop k low))) ∙ els-at (eq_table (drop k low)) (o / n)
    ∙ ap element (eq_table-get (drop k low) (o / n) (rw (length-drop k low, l) small))
  where
    fits : k ≤ h
    fits = pow-le k h (omega arith)

    whole : 2 ^ (h - k) * n ≡ 2 ^ h
    whole = ap (λ (v : ℕ). 2 ^ (h - k) * v) e ∙ sym (pow-add 2 (h - k) k) ∙ ap (λ (v : ℕ). 2 ^ v) sums
      where
        sums : h - k + k ≡ h
        sums = omega (arith, fits)

    small : o / n < 2 ^ (h - k)
    small = (div-lt_iff_lt-mul {k = n} {x = o} {y = 2 ^ (h - k)} p).1 (omega (arith, whole))

module _ (r : Relation) (D : Draws) (R : SizedRelation r) (C : Cut r D) where
  sum-from : (i : ℕ) (vs : List ℕ) → i + length vs ≡ length r.lengths
      → seg_sum gf128 (segments_e (drop i (offsets r.lengths)) (drop i r.lengths)) (els (low_point r D)) (els vs)
      ≡ element (segment_sum r.lengths (low_point r D) i vs)
  unfolding segment_sum
  sum-from i [] h = nothing i (omega arith)
    where
      nothing : (i : ℕ) → length r.lengths ≤ i → seg_sum gf128 (segments_e (drop i (offsets r.lengths)) (drop i r.lengths))
          (els (low_point r D)) [] ≡ element 0
      nothing i k = rw (drop_of_length-le (offsets r.lengths) {i = i} (rw (offsets-length r.lengths) k))
  sum-from i (v ∷ vs) h =
      ap₂ (λ (os ns : List ℕ). seg_sum gf128 (segments_e os ns) (els (low_point r D)) (element v ∷ els vs))
      (drop-cons (offsets r.lengths) i 0 (many (omega arith))) (drop-cons r.lengths i 0 (omega arith))
      ∙ ap₂ element_sum (ap (λ (e : Element). element_product e (element v)) (first i (omega arith)) ∙ sym (element-⊗ _ v))
      (sum-from (suc i) vs (omega arith))
      ∙ sym (element-⊕ _ (segment_sum r.lengths (low_point r D) (suc i) vs))
    where
      many : i < length r.lengths → i < length (offsets r.lengths)
      many k = rw (offsets-length r.lengths) k

      first : (i : ℕ) → i < length r.lengths → get_or (eq_table_e gf128 (drop (log₂ (get_or r.lengths i 0)) (els (low_point r D))))
          (offset r.lengths i / get_or r.lengths i 0) (element 0)
          ≡ element (eq_at (drop (local_vars r.lengths i) (low_point r D)) (suffix r.lengths i))
      first i k =
          let p = placed (r.m / 2) r.lengths i R.layout k in
          place_at (low_point r D) (log₂ (get_or r.lengths i 0)) (offset r.lengths i) (get_or r.lengths i 0) (log_half r)
          (low_size r R D C) p.size.power
          (omega (arith, p.ends, half_pow r R)) p.size.least

  pub segments-sum : (vs : List ℕ) → length vs ≡ length r.lengths
      → seg_sum gf128 (segments_e (offsets r.lengths) r.lengths) (els (low_point r D)) (els vs) ≡ element (segment_sum r.lengths (low_point r D) 0 vs)
  segments-sum vs h = sum-from 0 vs (omega arith)
