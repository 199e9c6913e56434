-- The theorem on an accepted run, and the sizes of the lists.
-- Assumes nothing.
use mathlib.Core.Path.{◌≡◌, refl, sym, ap, ap₂, ◌∙◌, subst, subst₂}
use mathlib.Core.List.{List, map, Memᴰ}
use mathlib.Core.Logic.{◌⊎◌, inl, inr}
use Prim.Native.Nat.{ℕ, zero, suc, ◌+◌, ◌*◌, ◌≤◌, ◌<◌, max}
use native.Mathlib.Omega.{arith}
use lib.ListN.{length, get_or, take, length-map}
use lib.Seq.{length-take-le}
use Rattle.magnetar_matrix.specs.Batch.{Relation, Batch, PublicColumns, Good}
use Rattle.magnetar_theory.specs.Lists.{lists, DrawInList, drawn, proof_of}
use Rattle.magnetar_theory.specs.Run.{Accepted, true_value as true_value_e, Draws as DrawsE}
use Rattle.magnetar_theory.specs.Count.{natural_sum}
use Rattle.magnetar_theory.specs.Whole.{Good as GoodE, list_of}
use Rattle.magnetar_theory.specs.Gf128.{Element, element, number, gf128}
use Rattle.magnetar_theory.proofs.Gf128.{number_of, gf128_laws}
use Rattle.magnetar_theory.proofs.Count.{met, met-sum, met-same, met-lists}
use Rattle.magnetar_theory.proofs.Absorbed.{absorbed-lists}
use Rattle.magnetar_theory.proofs.Whole.{list-sizes, sound}
use Rattle.magnetar_protocol.specs.Shape.{log_logins, log_bin, log_fld, log_cols}
use Rattle.magnetar_protocol.specs.Proof.{segment_values}
use Rattle.magnetar_protocol.specs.Draws.{Draws, draws_of}
use Rattle.magnetar_protocol.specs.Run.{verdict, claims}
use Rattle.magnetar_protocol.specs.Theory.{els, log_half, relation_e, public_e, batch_e, draws_e}
use Rattle.magnetar_protocol.specs.RunSizes.{SizedRelation, Elements}
use Rattle.magnetar_protocol.specs.Soundness.{bad_draws, absorbed_before, BadDraw}
use Rattle.magnetar_protocol.specs.Theorems.{Soundness, AtMostThree, AllLists}
use Rattle.magnetar_protocol.proofs.Elements.{map-take, els-at}
use Rattle.magnetar_protocol.proofs.SizeFacts.{cols-suc, Cut, cut, flat}
use Rattle.magnetar_protocol.proofs.Verdict.{holds_of}
use Rattle.magnetar_protocol.proofs.AcceptedRun.{accepted}
use Rattle.magnetar_protocol.proofs.GoodBatch.{good}
use Rattle.magnetar_protocol.proofs.TrueClaims.{sizes, true_claims}
use Rattle.magnetar_protocol.proofs.ClaimParts.{true-values}

-- no list has more than three elements, whatever has been absorbed and drawn
pub at-most-three : AtMostThree
unfolding bad_draws
at-most-three r b x absorbed drawn =
    rw length-map (list-sizes (relation_e r) (public_e x) (batch_e b) (log_logins r) (els absorbed) (els drawn))

number-mem : {e : Element} {l : List Element} → Memᴰ e l → Memᴰ (number e) (map number l)
number-mem (Memᴰ.head q) = Memᴰ.head (ap number q)
number-mem (Memᴰ.tail m) = Memᴰ.tail (number-mem m)

module _ (r : Relation) (b : Batch) (x : PublicColumns) (w d : List ℕ) where
  -- the list of the theory for the draw after these
  abbrev list_e : List Element → List Element
  list_e = list_of (relation_e r) (public_e x) (batch_e b) (log_logins r) (els w)

  -- the list of draw k, as numbers
  list-is : (k : ℕ) → k ≤ length d → map number (list_e (take k (els d))) ≡ bad_draws r b x (take (absorbed_before r k) w) (take k d)
  unfolding bad_draws absorbed_before
  list-is k h =
      ap (λ (n : ℕ). by (take (absorbed_before r n) (els w)) (take k (els d))) (length-take-le k (els d) (rw (length-map d element) h))
      ∙ ap₂ by (sym (map-take element (absorbed_before r k) w)) (sym (map-take element k d))
    where
      by : List Element → List Element → List ℕ
      by v e = map number (lists gf128 (log_logins r) (relation_e r) (public_e x) (batch_e b) v e)

  -- a draw in its list of at most three, as numbers
  as-numbers : Elements d → DrawInList gf128 list_e (els d) → BadDraw r b x w d
  as-numbers below (k, h, m) = (
    k,
    small,
    at-most-three r b x (take (absorbed_before r k) w) (take k d),
    subst₂ (λ (a : ℕ) (l : List ℕ). Memᴰ a l) (ap number (els-at d k) ∙ number_of (get_or d k 0) (below k))
        (list-is k (omega (arith, small))) (number-mem m),
  )
    where
      small : k < length d
      small = rw (length-map d element) at h

  -- all lists along one run together: 4 J + 1 + 2 log m, where 2 ^ J is the logins times the rows of the larger system
  pub all-lists : AllLists r b x w d
  all-lists R h =
      total_at_most (met gf128 whole (els d)) (sums (length d) (λ k. length (bad_draws r b x (take (absorbed_before r k) w) (take k d)))
      (λ k. length (list_e (take k (els d)))) each ∙ same)
      (met-lists gf128 gf128_laws (log_logins r) (relation_e r) (public_e x) (batch_e b) (els w) (els d)
      (omega (arith, length-map d element, cols-suc r R)))
    where
      whole : List Element → List Element
      whole = lists gf128 (log_logins r) (relation_e r) (public_e x) (batch_e b) (els w)

      each : (k : ℕ) → k < length d → length (bad_draws r b x (take (absorbed_before r k) w) (take k d)) ≡ length (list_e (take k (els d)))
      each k l = ap length (sym (list-is k (omega arith))) ∙ length-map (list_e (take k (els d))) number

      same : natural_sum (length d) (λ k. length (list_e (take k (els d)))) ≡ met gf128 whole (els d)
      same =
          ap (λ (n : ℕ). natural_sum n (λ k. length (list_e (take k (els d))))) (sym (length-map d element)) ∙ sym (met-sum gf128 list_e (els d))
          ∙ met-same gf128 list_e whole (els d) (absorbed-lists gf128 (log_logins r) (relation_e r) (public_e x) (batch_e b) (els w))

      total_at_most : {t : ℕ} (m : ℕ) → t ≡ m → m ≤ 4 * (log_logins r + max (log_bin r) (log_fld r)) + 1 + 2 * suc (log_half r)
          → t ≤ 4 * (log_logins r + max (log_bin r) (log_fld r)) + 1 + 2 * log_cols r
      total_at_most m e l = omega (arith, cols-suc r R)

      sums : (n : ℕ) (f g : ℕ → ℕ) → ((k : ℕ) → k < n → f k ≡ g k) → natural_sum n f ≡ natural_sum n g
      sums zero f g e = refl
      sums (suc n) f g e = ap₂ ◌+◌ (e 0 (omega arith)) (sums n (λ k. f (suc k)) (λ k. g (suc k)) (λ k l. e (suc k) (omega arith)))

  -- Demand 3, first half: where the verifier accepts, no bit is set outside the segments and every claim is true of the batch,
  -- the batch is good, or some draw lies in its list, which has at most three elements.
  pub soundness : Soundness r b x w d
  unfolding verdict claims
  soundness S v stray true = go found
    where
      D : Draws
      D = draws_of r d

      R : SizedRelation r
      R = S.run.relation

      C : Cut r D
      C = cut r d S.run.draws

      E : DrawsE gf128
      E = draws_e r D

      shared : List Element
      shared = els D.shared

      count : length shared ≡ log_logins r
      count = length-map D.shared element ∙ C.shared

      Found : ℕ → List Element → Type 0
      Found s drawn = GoodE (relation_e r) (public_e x) (batch_e b) ⊎ DrawInList gf128 (list_of (relation_e r) (public_e x) (batch_e b) s (els w)) drawn

      found : Found (log_logins r) (els d)
      found =
          subst₂ Found count (flat r d R S.run.draws)
          (sound (relation_e r) (public_e x) (batch_e b) (els w) E (sizes r b D R S.run.batch C x S.run.public stray)
          (subst (λ (s : ℕ). Accepted gf128 (relation_e r) (public_e x) E (proof_of gf128 s (relation_e r) (els w))) (sym count)
          (accepted r w D R C S.words x S.run.public (holds_of r x w D C v)))
          (subst (λ (s : ℕ). (proof_of gf128 s (relation_e r) (els w)).values ≡ map (true_value_e gf128 E (batch_e b)) (relation_e r).segs)
          (sym count)
          (true_claims r b D R S.run.batch C w S.words (true-values r R D C (segment_values r w) b true))))

      go : Found (log_logins r) (els d) → Good r b x ⊎ BadDraw r b x w d
      go (inl g) = inl (good r b x R S.run.batch S.run.public stray g)
      go (inr h) = inr (as-numbers S.run.elements_d h)
