-- And the other way: where the theory accepts words that are elements, the checks hold.
-- Assumes nothing.
use mathlib.Core.Path.{◌≡◌, sym, ap₂, ◌∙◌, subst, subst₂}
use mathlib.Core.List.{List, [], ◌∷◌, ◌++◌}
use Prim.Native.Nat.{ℕ, zero, suc, ◌+◌, ◌*◌, ◌^◌, ◌<◌}
use lib.ListN.{length, take, drop}
use lib.Pow.{pow_pos}
use Rattle.magnetar_field.specs.Polynomial.{eval}
use Rattle.magnetar_field.specs.Tabulate.{tabulate}
use Rattle.magnetar_field.proofs.Polynomial.{AllBelow, eval-lt}
use Rattle.magnetar_field.proofs.Product.{⊗-lt}
use Rattle.magnetar_field.proofs.Xor.{⊕-lt}
use Rattle.magnetar_sumcheck_verifier.specs.Round.{running}
use Rattle.magnetar_sumcheck_verifier.specs.Outer.{outer_end}
use Rattle.magnetar_sumcheck_verifier.specs.Inner.{inner_end}
use Rattle.magnetar_sumcheck_verifier.proofs.Verifier.{MessagesBelow, checks-passes, running-is}
use Rattle.magnetar_matrix.specs.Batch.{Relation, PublicColumns}
use Rattle.magnetar_theory.specs.SumCheck.{Checks, running as running_e}
use Rattle.magnetar_theory.specs.Run.{Accepted}
use Rattle.magnetar_theory.specs.Gf128.{Element, element, gf128}
use Rattle.magnetar_theory.proofs.Gf128.{element-inj}
use Rattle.magnetar_protocol.specs.Shape.{log_logins, log_bin, log_fld, log_cols, before_inner, before_end, proof_elements}
use Rattle.magnetar_protocol.specs.Proof.{part, bin_messages, fld_messages, inner_rounds, value_z}
use Rattle.magnetar_protocol.specs.Draws.{Draws}
use Rattle.magnetar_protocol.specs.Checks.{inner_claim}
use Rattle.magnetar_protocol.specs.Theory.{els, relation_e, public_e, draws_e, proof_e}
use Rattle.magnetar_protocol.specs.RunSizes.{SizedRelation, SizedPublic, Elements}
use Rattle.magnetar_protocol.proofs.Elements.{map-append, dot-lt}
use Rattle.magnetar_protocol.proofs.Pieces.{bin-are, fld-are, inner-are, vz-is}
use Rattle.magnetar_protocol.proofs.SizeFacts.{cols-suc, Cut, inner-is}
use Rattle.magnetar_protocol.proofs.Verdict.{Holds}
use Rattle.magnetar_protocol.proofs.AcceptedRun.{claim-is, bin-end-is, fld-end-is, inner-end-is, identity-is}

-- ---- bounds
pub all-below : (l : List ℕ) → Elements l → AllBelow (2 ^ 128) l
all-below [] h = tt
all-below (x ∷ l) h = (h 0, all-below l (λ i. h (suc i)))

take_below : (n : ℕ) (l : List ℕ) → AllBelow (2 ^ 128) l → AllBelow (2 ^ 128) (take n l)
take_below zero l h = tt
take_below (suc n) [] h = tt
take_below (suc n) (x ∷ l) h = (h.0, take_below n l h.1)

drop-below : (n : ℕ) (l : List ℕ) → AllBelow (2 ^ 128) l → AllBelow (2 ^ 128) (drop n l)
drop-below zero l h = h
drop-below (suc n) [] h = tt
drop-below (suc n) (x ∷ l) h = drop-below n l h.1

messages-below : (f : ℕ → List ℕ) (n : ℕ) → ((i : ℕ) → AllBelow (2 ^ 128) (f i)) → MessagesBelow (tabulate f n)
unfolding tabulate
messages-below f zero h = tt
messages-below f (suc n) h = (h 0, messages-below (λ i. f (suc i)) n (λ i. h (suc i)))

both_below : (s t : List (List ℕ)) → MessagesBelow s → MessagesBelow t → MessagesBelow (s ++ t)
both_below [] t h k = k
both_below (m ∷ s) t h k = (h.0, both_below s t h.1 k)

running-lt : (c : ℕ) (ms : List (List ℕ)) (rs : List ℕ) → c < 2 ^ 128 → MessagesBelow ms → running c ms rs < 2 ^ 128
unfolding running
running-lt c [] rs h b = h
running-lt c (m ∷ ms) [] h b = h
running-lt c (m ∷ ms) (r ∷ rs) h b = running-lt (eval m r) ms rs (eval-lt m r b.0) b.1

module _ (r : Relation) (w : List ℕ) (D : Draws) (R : SizedRelation r) (C : Cut r D) (long : length w ≡ proof_elements r)
    (E : Elements w) where
  parts_below : (n o : ℕ) → AllBelow (2 ^ 128) (part o n w)
  parts_below n o = take_below n (drop o w) (drop-below o w (all-below w E))

  bin-below : MessagesBelow (bin_messages r w)
  unfolding bin_messages
  bin-below =
      both_below (tabulate (λ i. part (8 * i) 4 w) (log_logins r)) (tabulate (λ i. part (8 * log_logins r + 4 * i) 4 w) (log_bin r))
      (messages-below (λ i. part (8 * i) 4 w) (log_logins r) (λ i. parts_below 4 (8 * i)))
      (messages-below (λ i. part (8 * log_logins r + 4 * i) 4 w) (log_bin r) (λ i. parts_below 4 (8 * log_logins r + 4 * i)))

  fld-below : MessagesBelow (fld_messages r w)
  unfolding fld_messages
  fld-below =
      both_below (tabulate (λ i. part (8 * i + 4) 4 w) (log_logins r))
      (tabulate (λ i. part (8 * log_logins r + 4 * log_bin r + 4 * i) 4 w) (log_fld r))
      (messages-below (λ i. part (8 * i + 4) 4 w) (log_logins r) (λ i. parts_below 4 (8 * i + 4)))
      (messages-below (λ i. part (8 * log_logins r + 4 * log_bin r + 4 * i) 4 w) (log_fld r)
      (λ i. parts_below 4 (8 * log_logins r + 4 * log_bin r + 4 * i)))

  inner_below : MessagesBelow (inner_rounds r w)
  unfolding inner_rounds
  inner_below = messages-below (λ i. part (before_inner r + 3 * i) 3 w) (log_cols r) (λ i. parts_below 3 (before_inner r + 3 * i))

  claim-lt : inner_claim r w D < 2 ^ 128
  unfolding inner_claim
  claim-lt = dot-lt D.alphas _

  value-lt : value_z r w < 2 ^ 128
  unfolding value_z
  value-lt = E (before_end r)

  pub holds : (x : PublicColumns) → SizedPublic r x → Accepted gf128 (relation_e r) (public_e x) (draws_e r D) (proof_e r w) → Holds r x w D
  holds x X A = record {
    bin = checks-passes 0 (bin_messages r w) (D.shared ++ D.row_bin) (pow_pos 128) bin-below
        (subst₂ (Checks gf128 (element 0)) (bin-are r w) (sym (map-append element D.shared D.row_bin)) A.bin-rounds);
    fld = checks-passes 0 (fld_messages r w) (D.shared ++ D.row_fld) (pow_pos 128) fld-below
        (subst₂ (Checks gf128 (element 0)) (fld-are r w) (sym (map-append element D.shared D.row_fld)) A.fld-rounds);
    bin-end = element-inj _ _ (running-lt 0 (bin_messages r w) (D.shared ++ D.row_bin) (pow_pos 128) bin-below)
        (unfold outer_end in ⊗-lt _ _)
        (running-is 0 (bin_messages r w) (D.shared ++ D.row_bin)
        ∙ ap₂ (running_e gf128 (element 0)) (sym (bin-are r w)) (map-append element D.shared D.row_bin) ∙ A.bin_terminal
        ∙ sym (bin-end-is r w D R C long));
    fld-end = element-inj _ _ (running-lt 0 (fld_messages r w) (D.shared ++ D.row_fld) (pow_pos 128) fld-below)
        (unfold outer_end in ⊗-lt _ _)
        (running-is 0 (fld_messages r w) (D.shared ++ D.row_fld)
        ∙ ap₂ (running_e gf128 (element 0)) (sym (fld-are r w)) (map-append element D.shared D.row_fld) ∙ A.fld_terminal
        ∙ sym (fld-end-is r w D R C long));
    inner = checks-passes (inner_claim r w D) (inner_rounds r w) D.inner claim-lt inner_below
        (subst (λ (ms : List (List Element)). Checks gf128 (element (inner_claim r w D)) ms (els D.inner)) (inner-are r w (cols-suc r R))
        (subst₂ (λ (c : Element) (rs : List Element). Checks gf128 c (proof_e r w).inner_ms rs) (sym (claim-is r w D R C long))
        (inner-is r R D C) A.inner-rounds));
    inner-end = element-inj _ _ (running-lt (inner_claim r w D) (inner_rounds r w) D.inner claim-lt inner_below)
        (unfold inner_end in ⊗-lt _ _)
        (running-is (inner_claim r w D) (inner_rounds r w) D.inner
        ∙ (λ i. running_e gf128 (claim-is r w D R C long i) (sym (inner-are r w (cols-suc r R)) i) (sym (inner-is r R D C) i))
        ∙ A.inner_terminal ∙ sym (inner-end-is r w D R C long));
    identity = element-inj _ _ (⊕-lt 128 _ _ (⊗-lt _ _) (⊗-lt _ _)) value-lt
        (identity-is r w D R C long x X ∙ sym A.identity ∙ vz-is r w (cols-suc r R));
  }
