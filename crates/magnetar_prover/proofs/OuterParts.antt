-- The parts of the outer rounds, one after the other: what each function leaves is what its definition gives.
-- Assumes nothing.
use mathlib.Core.Path.{◌≡◌, sym, ap, ap₂, ◌∙◌}
use mathlib.Core.List.{List, [], ◌++◌}
use Prim.Native.Nat.{ℕ, ◌+◌, ◌-◌, ◌*◌, ◌/◌, ◌^◌, ◌≤◌, ◌<◌}
use native.Mathlib.Omega.{arith}
use lib.ListN.{length, take, drop}
use borrow.Rule.Slice.PartMut.{put_mid}
use Rattle.magnetar_field.specs.Sizes.{log₂}
use Rattle.magnetar_field.proofs.Log2.{log₂-pow}
use Rattle.magnetar_field.specs.Words.{elements}
use Rattle.magnetar_hash.specs.Bytes.{ascii}
use Rattle.magnetar_hash.specs.declared.transcript.Transcript.{Transcript}
use Rattle.magnetar_sumcheck_verifier.specs.Messages.{Outer}
use Rattle.magnetar_schedule.specs.Stepwise.{Steps, OuterSteps, Tables, draw_times, shared_steps, row_steps}
use Rattle.magnetar_prover.specs.InScratch.{steps_in, outer_in, row_in, sent_in, sent_each, three_in, EqTablePlaced}
use Rattle.magnetar_prover.specs.Shared.{shared_in}
use Rattle.magnetar_prover.specs.Entries.{tables_in, block_words, tables_of, outer_run_steps}
use Rattle.magnetar_prover.specs.Whole.{taus_of, begin_of, bin_of, fld_of, end_of, left_in, outer_whole}
use Rattle.magnetar_prover.proofs.Drawn.{drawn-sending}
use Rattle.magnetar_prover.proofs.InnerWhole.{beside, each-beside}
use Rattle.magnetar_prover.proofs.Blocks.{lent-behind, both-front, both_behind}
use Rattle.magnetar_prover.proofs.Joined.{whole_is, first-joined, bin-rows, fld-rows, tau-eq}

-- no variable is left, so no tau is
none_left : (l : List ℕ) → take (log₂ (2 / 2)) l ≡ []
none_left l = ap (λ (n : ℕ). take n l) (log₂-pow 0 (omega arith))

module _ (l b f wb wf : ℕ) (lb : l + b < 62) (lf : l + f < 62) where
  -- ---- the taus, their eq tables and the shared rounds
  pub shared-left : (kb kf ob of : ℕ) (t u v : Transcript) (p0 d1 s0 s1 p2 d2 s2 : List ℕ) → ob ≡ 1 → of ≡ 1
      → length s0 ≡ 4 * wb + 4 * wf → length s1 ≡ 4 * wb + 4 * wf
      → steps_in 0 (l + b + (l + f)) u [] d1 ≡ taus_of l b f t
      → EqTablePlaced wb (take (l + b) (elements d1)) (take (4 * wb) s0) (take (4 * wb) s1)
      → EqTablePlaced wf (take (l + f) (drop (l + b) (elements d1))) (take (4 * wf) (drop (4 * wb) s0)) (take (4 * wf) (drop (4 * wb) s1))
      → shared_in (0 + 8 * l) (l + b + (l + f) + l) 0 b f 0 (l + b) kb kf wb wf (2 * 2 ^ b) (2 * 2 ^ f) v p2 d2 s2
      ≡ shared_steps 0 l (shared_in 0 (l + b + (l + f)) l b f 0 (l + b) ob of wb wf wb wf u p0 d1 s1)
      → shared_in (8 * l) (l + b + (l + f) + l) 0 b f 0 (l + b) kb kf wb wf (2 * 2 ^ b) (2 * 2 ^ f) v p2 d2 s2
      ≡ shared_steps 0 l (begin_of l b (tables_in wb wf (take (4 * wb) s0) (drop (4 * wb) s0)) (taus_of l b f t))
  shared-left kb kf ob of t u v p0 d1 s0 s1 p2 d2 s2 o1 o2 l0 l1 h0 hb hf h =
      let e : 8 * l ≡ 0 + 8 * l = omega arith in
      ap (λ (n : ℕ). shared_in n (l + b + (l + f) + l) 0 b f 0 (l + b) kb kf wb wf (2 * 2 ^ b) (2 * 2 ^ f) v p2 d2 s2) e
      ∙ h
      ∙ ap₂ (λ (x y : ℕ). shared_steps 0 l (shared_in 0 (l + b + (l + f)) l b f 0 (l + b) x y wb wf wb wf u p0 d1 s1)) o1 o2
      ∙ ap (shared_steps 0 l) (first-joined l b f wb wf lb lf t u p0 d1 s0 s1 l0 l1 h0 hb hf)

  -- ---- the row rounds of both
  pub rows_left : (nb nf kb kf k3 k4 : ℕ) (t2 t3 t4 : Transcript) (p2 d2 s2 p3 d3 bin3 p4 d4 fld4 : List ℕ) → nb ≡ 2 * 2 ^ b → nf ≡ 2 * 2 ^ f
      → length s2 ≡ 4 * wb + 4 * wf → length bin3 ≡ 4 * wb → length fld4 ≡ 4 * wf → l + b + (l + f) + l ≤ length (elements d2)
      → row_in (8 * l + 4 * b) (l + b + (l + f) + l + b) (0 + b) k3 wb 2 t3 p3 d3 bin3
      ≡ row_steps "vs-out-rowbin-" 0 b (row_in (8 * l) (l + b + (l + f) + l) 0 kb wb nb t2 p2 d2 (take (4 * wb) s2))
      → row_in (8 * l + 4 * b + 4 * f) (l + b + (l + f) + l + b + f) (l + b + f) k4 wf 2 t4 p4 d4 fld4
      ≡ row_steps "vs-out-rowfld-" 0 f (row_in (8 * l + 4 * b) (l + b + (l + f) + l + b) (l + b) kf wf nf t3 p3 d3 (take (4 * wb + 4 * wf - 4 * wb)
      (drop (4 * wb) (bin3 ++ drop (4 * wb) s2))))
      → left_in (8 * l + 4 * b + 4 * f) (l + b + (l + f) + l + b + f) k3 k4 wb wf t4 p4 d4 (put_mid (4 * wb) (4 * wb + 4 * wf - 4 * wb) (bin3
      ++ drop (4 * wb) s2) fld4)
      ≡ fld_of f (bin_of b (shared_in (8 * l) (l + b + (l + f) + l) 0 b f 0 (l + b) kb kf wb wf (2 * 2 ^ b) (2 * 2 ^ f) t2 p2 d2 s2))
  rows_left nb nf kb kf k3 k4 t2 t3 t4 p2 d2 s2 p3 d3 bin3 p4 d4 fld4 e g ls lb3 lf4 he h3 h4 =
      let h3' = h3 ∙ ap (λ (n : ℕ). row_steps "vs-out-rowbin-" 0 b (row_in (8 * l) (l + b + (l + f) + l) 0 kb wb n t2 p2 d2 (take (4 * wb) s2))) e in
      let h4' = h4 ∙ ap₂ (λ (n : ℕ) (s : List ℕ). row_steps "vs-out-rowfld-" 0 f (row_in (8 * l + 4 * b) (l + b + (l + f) + l + b) (l + b) kf wf n t3
      p3 d3 s)) g (lent-behind s2 bin3 (4 * wb) (4 * wf) ls lb3) in
      left_is
      ∙ fld-rows l b f wb wf lb lf (8 * l) (l + b + (l + f) + l) (8 * l + 4 * b) (l + b + (l + f) + l + b) (8 * l + 4 * b + 4 * f) (l + b + (l + f) +
      l + b + f) (0 + b) (l + b + f) kb kf k3 k4 t2 t3 t4 p2 d2 s2 p3 d3 bin3 p4 d4 fld4 he (omega arith) (omega arith) h3' h4'
      ∙ ap (fld_of f) (bin-rows l b f wb wf lb lf (8 * l) (l + b + (l + f) + l) (8 * l + 4 * b) (l + b + (l + f) + l + b) (0 + b) kb kf k3 t2 t3 p2 d2
      s2 p3 d3 bin3 h3')
    where
      left_is : left_in (8 * l + 4 * b + 4 * f) (l + b + (l + f) + l + b + f) k3 k4 wb wf t4 p4 d4 (put_mid (4 * wb) (4 * wb + 4 * wf - 4 * wb) (bin3
          ++ drop (4 * wb) s2) fld4)
          ≡ record {
            steps = steps_in (8 * l + 4 * b + 4 * f) (l + b + (l + f) + l + b + f) t4 p4 d4;
            bin = (row_in (8 * l + 4 * b) (l + b + (l + f) + l + b) (0 + b) k3 wb 2 t3 p3 d3 bin3).held;
            fld = (row_in (8 * l + 4 * b + 4 * f) (l + b + (l + f) + l + b + f) (l + b + f) k4 wf 2 t4 p4 d4 fld4).held;
          }
      left_is =
          ap₂ (λ (x y : Outer). record { steps = steps_in (8 * l + 4 * b + 4 * f) (l + b + (l + f) + l + b + f) t4 p4 d4; bin = x; fld = y })
          (ap (outer_in 0 [] k3 wb 2) (both-front s2 bin3 fld4 (4 * wb) (4 * wf) ls lb3 lf4)
          ∙ tau-eq 0 k3 wb 2 bin3 (sym (none_left (drop (0 + b) (elements d3)))))
          (ap (outer_in 0 [] k4 wf 2) (both_behind s2 bin3 fld4 (4 * wb) (4 * wf) ls lb3 lf4)
          ∙ tau-eq 0 k4 wf 2 fld4 (sym (none_left (drop (l + b + f) (elements d4)))))

  -- ---- the terminals and the alphas
  pub end-left : (a d kb kf : ℕ) (t4 t5 t6 : Transcript) (p4 d4 s4 p5 d6 fld : List ℕ) → fld ≡ drop (4 * wb) s4
      → sent_in (a + 6) t5 p5 ≡ sent_each "vs-terminal-" 0 (three_in wb (take (4 * wb) s4) ++ three_in wf fld) (sent_in a t4 p4)
      → steps_in 0 (d + 6) t6 [] d6 ≡ draw_times 6 (ascii "vs-alpha") (steps_in 0 d t5 [] d4)
      → steps_in (a + 6) (d + 6) t6 p5 d6 ≡ end_of (left_in a d kb kf wb wf t4 p4 d4 s4)
  end-left a d kb kf t4 t5 t6 p4 d4 s4 p5 d6 fld e h5 h6 =
      drawn-sending 6 (a + 6) d (d + 6) (ascii "vs-alpha") t5 t6 p5 d4 d6 h6
      ∙ ap (draw_times 6 (ascii "vs-alpha"))
      (ap (beside (take d (elements d4))) (h5 ∙ ap (λ (s : List ℕ). sent_each "vs-terminal-" 0 (three_in wb (take (4 * wb) s4)
      ++ three_in wf s) (sent_in a t4 p4)) e)
      ∙ sym (each-beside "vs-terminal-" 0 (three_in wb (take (4 * wb) s4) ++ three_in wf (drop (4 * wb) s4)) (take d (elements d4)) (sent_in a t4 p4)))

  -- ---- one after the other
  pub all_left : (S : OuterSteps) (a d kb kf ka kc : ℕ) (T : Tables) (t t4 : Transcript) (p4 d4 s4 : List ℕ) (E : Steps)
      → S ≡ shared_steps 0 l (begin_of l b T (taus_of l b f t))
      → left_in a d kb kf wb wf t4 p4 d4 s4 ≡ fld_of f (bin_of b S)
      → E ≡ end_of (left_in a d ka kc wb wf t4 p4 d4 s4)
      → E ≡ outer_whole l b f T t
  unfolding outer_whole
  all_left S a d kb kf ka kc T t t4 p4 d4 s4 E h g e =
      e ∙ ap end_of (g ∙ ap (λ (q : OuterSteps). fld_of f (bin_of b q)) h)

-- ---- the entry: the run of the definitions
pub played-is : (q rb rf l b f wb wf e : ℕ) (s : List ℕ) (t : Transcript) → l ≡ log₂ q → b ≡ log₂ rb → f ≡ log₂ rf → wb ≡ 2 * (q * rb)
    → wf ≡ 2 * (q * rf) → e ≡ block_words q rb rf
    → outer_whole l b f (tables_in wb wf (take (4 * wb) (take e s)) (drop (4 * wb) (take e s))) t ≡ outer_run_steps q rb rf s t
unfolding outer_run_steps
played-is q rb rf l b f wb wf e s t el eb ef eu ev ee = rw (el, eb, ef, eu, ev, ee) (whole_is 2 q rb rf [] (tables_of q rb rf s) t)
