-- A run whose checks hold is accepted in the theory.
-- Assumes nothing.
use mathlib.Core.Path.{◌≡◌, refl, sym, ap, ap₂, ◌∙◌, subst, subst₂}
use mathlib.Core.List.{List, [], ◌∷◌, ◌++◌, reverse}
use Prim.Native.Nat.{ℕ, suc, ◌+◌, ◌/◌, ◌≤◌}
use native.Mathlib.Nat.{add-zero}
use native.Mathlib.Omega.{arith}
use lib.ListN.{length, get_or, take, drop, length-drop}
use lib.Seq.{get_or-drop}
use Rattle.magnetar_field.specs.Gf128.{◌⊕◌, ◌⊗◌}
use Rattle.magnetar_multilinear.specs.Multilinear.{mle}
use Rattle.magnetar_sumcheck_verifier.specs.Order.{eq_points}
use Rattle.magnetar_sumcheck_verifier.specs.Outer.{outer_end}
use Rattle.magnetar_sumcheck_verifier.specs.Inner.{inner_end}
use Rattle.magnetar_sumcheck_verifier.proofs.Verifier.{passes-checks, running-is}
use Rattle.magnetar_sumcheck_verifier.proofs.Protocol.{element-mle, element-eq_points}
use Rattle.magnetar_matrix.specs.Batch.{Relation, PublicColumns, public_folded}
use Rattle.magnetar_theory.specs.SumCheck.{Checks, running as running_e}
use Rattle.magnetar_theory.specs.EqTable.{eq_table as eq_table_e, dot as dot_e, eq_product}
use Rattle.magnetar_theory.specs.Run.{Accepted, terminals as terminals_e, seg_sum, combo, folded_half, inner}
use Rattle.magnetar_theory.specs.Gf128.{Element, element, element_sum, element_product, gf128}
use Rattle.magnetar_theory.proofs.Gf128.{element-⊕, element-⊗}
use Rattle.magnetar_protocol.specs.Shape.{log_cols, before_terminals, before_end, proof_elements}
use Rattle.magnetar_protocol.specs.Proof.{bin_messages, fld_messages, terminals, terminal, inner_rounds, value_z, segment_values}
use Rattle.magnetar_protocol.specs.Draws.{Draws, login_point, low_point, top_element}
use Rattle.magnetar_protocol.specs.Checks.{inner_claim, combined, segment_sum}
use Rattle.magnetar_protocol.specs.Theory.{els, log_half, relation_e, public_e, draws_e, proof_e}
use Rattle.magnetar_protocol.specs.RunSizes.{SizedRelation, SizedPublic}
use Rattle.magnetar_protocol.proofs.Elements.{map-append, map-reverse, els-at, element-dot}
use Rattle.magnetar_protocol.proofs.Pieces.{bin-are, fld-are, inner-are, vz-is, values_of, terminal-is}
use Rattle.magnetar_protocol.proofs.SizeFacts.{cols-suc, Cut, inner-is}
use Rattle.magnetar_protocol.proofs.Combined.{combined-is}
use Rattle.magnetar_protocol.proofs.SegmentSums.{segments-sum}
use Rattle.magnetar_protocol.proofs.Folds.{halves-folded}
use Rattle.magnetar_protocol.proofs.Verdict.{Holds}

-- ---- the terminals
take-six : (l : List ℕ) → 6 ≤ length l → take 6 l ≡ get_or l 0 0 ∷ get_or l 1 0 ∷ get_or l 2 0 ∷ get_or l 3 0 ∷ get_or l 4 0 ∷ get_or l 5 0 ∷ []
take-six [] h = absurd (omega arith)
take-six (a ∷ []) h = absurd (omega arith)
take-six (a ∷ b ∷ []) h = absurd (omega arith)
take-six (a ∷ b ∷ c ∷ []) h = absurd (omega arith)
take-six (a ∷ b ∷ c ∷ d ∷ []) h = absurd (omega arith)
take-six (a ∷ b ∷ c ∷ d ∷ e ∷ []) h = absurd (omega arith)
take-six (a ∷ b ∷ c ∷ d ∷ e ∷ f ∷ l) h = refl

module _ (r : Relation) (w : List ℕ) (long : length w ≡ proof_elements r) where
  pub six-terminals : terminals r w ≡ terminal r w 0 ∷ terminal r w 1 ∷ terminal r w 2 ∷ terminal r w 3 ∷ terminal r w 4 ∷ terminal r w 5
      ∷ []
  unfolding terminals
  six-terminals =
      take-six (drop (before_terminals r) w) (rw length-drop (omega arith))
      ∙ (λ i. at 0 i ∷ at 1 i ∷ at 2 i ∷ at 3 i ∷ at 4 i ∷ at 5 i ∷ [])
    where
      at : (j : ℕ) → get_or (drop (before_terminals r) w) j 0 ≡ terminal r w j
      at j = get_or-drop (before_terminals r) w j 0

-- the terminal equation's right side
pub end_is : (tau point login : List ℕ) (a b c : ℕ)
    → element (outer_end (eq_points tau (point ++ reverse login)) a b c)
    ≡ element_product (eq_product gf128 (els tau) (els point ++ reverse (els login))) (element_sum (element_product (element a) (element b)) (element c))
unfolding outer_end
end_is tau point login a b c =
    element-⊗ (eq_points tau (point ++ reverse login)) (a ⊗ b ⊕ c)
    ∙ ap₂ element_product (element-eq_points tau (point ++ reverse login)
    ∙ ap (eq_product gf128 (els tau)) (map-append element point (reverse login)
    ∙ ap (λ (l : List Element). els point ++ l) (map-reverse element login)))
    (element-⊕ (a ⊗ b) c ∙ ap (λ (e : Element). element_sum e (element c)) (element-⊗ a b))

module _ (r : Relation) (w : List ℕ) (D : Draws) (R : SizedRelation r) (C : Cut r D) (long : length w ≡ proof_elements r) where
  cols : log_cols r ≡ suc (log_half r)
  cols = cols-suc r R

  -- the first terminal
  pub ab-is : get_or (els w) (before_terminals r) (element 0) ≡ element (terminal r w 0)
  ab-is = els-at w (before_terminals r) ∙ ap (λ (k : ℕ). element (get_or w k 0)) (sym (add-zero (before_terminals r)))

  pub claim-is : element (inner_claim r w D) ≡ dot_e gf128 (els D.alphas) (terminals_e gf128 (proof_e r w))
  unfolding inner_claim
  claim-is =
      element-dot D.alphas (terminals r w)
      ∙ ap (λ (l : List ℕ). dot_e gf128 (els D.alphas) (els l)) (six-terminals r w long)
      ∙ sym (λ i. dot_e gf128 (els D.alphas) (ab-is i ∷ terminal-is r w 1 i ∷ terminal-is r w 2 i ∷ terminal-is r w 3 i
      ∷ terminal-is r w 4 i ∷ terminal-is r w 5 i ∷ []))

  pub bin-end-is : element (outer_end (eq_points D.tau_bin (D.row_bin ++ login_point D)) (terminal r w 0) (terminal r w 1) (terminal r w 2))
      ≡ element_product (eq_product gf128 (els D.tau_bin) (els D.row_bin ++ reverse (els D.shared)))
      (element_sum (element_product (proof_e r w).ab (proof_e r w).bb) (proof_e r w).cb)
  unfolding login_point
  bin-end-is = end_is D.tau_bin D.row_bin D.shared (terminal r w 0) (terminal r w 1) (terminal r w 2)
      ∙ (λ i. element_product (eq_product gf128 (els D.tau_bin) (els D.row_bin ++ reverse (els D.shared)))
      (element_sum (element_product (sym ab-is i) (sym (terminal-is r w 1) i)) (sym (terminal-is r w 2) i)))

  pub fld-end-is : element (outer_end (eq_points D.tau_fld (D.row_fld ++ login_point D)) (terminal r w 3) (terminal r w 4) (terminal r w 5))
      ≡ element_product (eq_product gf128 (els D.tau_fld) (els D.row_fld ++ reverse (els D.shared)))
      (element_sum (element_product (proof_e r w).af (proof_e r w).bf) (proof_e r w).cf)
  unfolding login_point
  fld-end-is = end_is D.tau_fld D.row_fld D.shared (terminal r w 3) (terminal r w 4) (terminal r w 5)
      ∙ (λ i. element_product (eq_product gf128 (els D.tau_fld) (els D.row_fld ++ reverse (els D.shared)))
      (element_sum (element_product (sym (terminal-is r w 3) i) (sym (terminal-is r w 4) i)) (sym (terminal-is r w 5) i)))

  pub inner-end-is : element (inner_end (mle (combined r D) D.inner) (value_z r w))
      ≡ element_product (dot_e gf128 (eq_table_e gf128 (inner gf128 (draws_e r D)))
      (combo gf128 (relation_e r) (els D.row_bin) (els D.row_fld) (els D.alphas))) (proof_e r w).vz
  unfolding inner_end
  inner-end-is = element-⊗ (mle (combined r D) D.inner) (value_z r w)
      ∙ ap₂ element_product (element-mle (combined r D) D.inner
      ∙ ap₂ (λ (p t : List Element). dot_e gf128 (eq_table_e gf128 p) t) (sym (inner-is r R D C)) (combined-is r D R)) (sym (vz-is r w cols))

  values_length : length (segment_values r w) ≡ length r.lengths
  unfolding segment_values
  values_length = length-drop (before_end r + 1) w ∙ omega arith

  pub identity-is : (x : PublicColumns) → SizedPublic r x
      → element ((1 ⊕ top_element r D) ⊗ segment_sum r.lengths (low_point r D) 0 (segment_values r w)
      ⊕ top_element r D ⊗ mle (public_folded r.q (r.m / 2) x (login_point D)) (low_point r D))
      ≡ element_sum (element_product (element_sum (element 1) (element (top_element r D)))
      (seg_sum gf128 (relation_e r).segs (els (low_point r D)) (proof_e r w).values))
      (element_product (element (top_element r D)) (dot_e gf128 (eq_table_e gf128 (els (low_point r D)))
      (folded_half gf128 (relation_e r) (public_e x) (els D.shared))))
  identity-is x X =
      element-⊕ _ _ ∙ ap₂ element_sum
      (element-⊗ (1 ⊕ top_element r D) (segment_sum r.lengths (low_point r D) 0 (segment_values r w)) ∙ ap₂ element_product (element-⊕ 1 (top_element r D))
      (sym (ap (seg_sum gf128 (relation_e r).segs (els (low_point r D))) (values_of r w cols)
      ∙ segments-sum r D R C (segment_values r w) values_length)))
      (element-⊗ (top_element r D) (mle (public_folded r.q (r.m / 2) x (login_point D)) (low_point r D))
      ∙ ap (element_product (element (top_element r D))) (element-mle (public_folded r.q (r.m / 2) x (login_point D)) (low_point r D)
      ∙ ap (dot_e gf128 (eq_table_e gf128 (els (low_point r D)))) (halves-folded r D R C x X)))

  pub accepted : (x : PublicColumns) → SizedPublic r x → Holds r x w D → Accepted gf128 (relation_e r) (public_e x) (draws_e r D) (proof_e r w)
  accepted x X H = record {
    bin-rounds = subst₂ (Checks gf128 (element 0)) (sym (bin-are r w)) (map-append element D.shared D.row_bin)
        (passes-checks 0 (bin_messages r w) (D.shared ++ D.row_bin) H.bin);
    fld-rounds = subst₂ (Checks gf128 (element 0)) (sym (fld-are r w)) (map-append element D.shared D.row_fld)
        (passes-checks 0 (fld_messages r w) (D.shared ++ D.row_fld) H.fld);
    bin_terminal = ap₂ (running_e gf128 (element 0)) (bin-are r w) (sym (map-append element D.shared D.row_bin))
        ∙ sym (running-is 0 (bin_messages r w) (D.shared ++ D.row_bin)) ∙ ap element H.bin-end ∙ bin-end-is;
    fld_terminal = ap₂ (running_e gf128 (element 0)) (fld-are r w) (sym (map-append element D.shared D.row_fld))
        ∙ sym (running-is 0 (fld_messages r w) (D.shared ++ D.row_fld)) ∙ ap element H.fld-end ∙ fld-end-is;
    inner-rounds = subst₂ (λ (c : Element) (rs : List Element). Checks gf128 c (proof_e r w).inner_ms rs) claim-is (sym (inner-is r R D C))
        (subst (λ (ms : List (List Element)). Checks gf128 (element (inner_claim r w D)) ms (els D.inner)) (sym (inner-are r w cols))
        (passes-checks (inner_claim r w D) (inner_rounds r w) D.inner H.inner));
    inner_terminal = (λ i. running_e gf128 (sym claim-is i) (inner-are r w cols i) (inner-is r R D C i))
        ∙ sym (running-is (inner_claim r w D) (inner_rounds r w) D.inner) ∙ ap element H.inner-end ∙ inner-end-is;
    identity = vz-is r w cols ∙ ap element (sym H.identity) ∙ identity-is x X;
  }
