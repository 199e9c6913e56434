-- The outer rounds, joined: what their functions leave one after the other is the whole.
-- Assumes nothing.
use mathlib.Core.Path.{◌≡◌, refl, sym, ap, ap₂, ◌∙◌, subst}
use mathlib.Core.List.{List, [], ◌∷◌, ◌++◌}
use Prim.Native.Nat.{ℕ, zero, suc, ◌+◌, ◌*◌, ◌/◌, ◌^◌, ◌≤◌, ◌<◌}
use Prim.Native.String.{String}
use native.Mathlib.Omega.{arith}
use lib.ListN.{length, take, drop, length-drop}
use lib.Seq.{take-take, take_at, take_all, length-take-le}
use Rattle.magnetar_field.specs.Sizes.{log₂}
use Rattle.magnetar_field.proofs.Log2.{log₂-pow}
use Rattle.magnetar_field.specs.Words.{elements}
use Rattle.magnetar_hash.specs.Bytes.{ascii}
use Rattle.magnetar_hash.specs.declared.transcript.Transcript.{Transcript}
use Rattle.magnetar_sumcheck_verifier.specs.Messages.{Outer, outer_start}
use Rattle.magnetar_protocol.specs.Shape.{sizes_only}
use Rattle.magnetar_schedule.specs.Stepwise.{Steps, RowSteps, Tables, draw_times, shared_steps, row_steps}
use Rattle.magnetar_schedule.specs.Stepwise.{tau_steps, outer_begin, bin_rows, fld_rows, outer_steps, terminals_left, outer_all}
use Rattle.magnetar_schedule.proofs.StepLaws.{row-rounds}
use Rattle.magnetar_prover.specs.Entries.{table_at, tables_in}
use Rattle.magnetar_prover.specs.InScratch.{steps_in, outer_in, row_in, sent_in, sent_each, three_in, EqTablePlaced}
use Rattle.magnetar_prover.specs.Shared.{shared_in}
use Rattle.magnetar_prover.specs.Whole.{taus_of, begin_of, bin_of, fld_of, end_of, outer_whole}
use Rattle.magnetar_prover.proofs.Drawn.{drawn-sending}
use Rattle.magnetar_prover.proofs.EqTablePlaced.{placed-outer}
use Rattle.magnetar_prover.proofs.InnerWhole.{beside, each-beside}

drop_of_take : (b f : ℕ) (l : List ℕ) → drop b (take (b + f) l) ≡ take f (drop b l)
drop_of_take zero f l = let e : zero + f ≡ f = omega arith in ap (λ (n : ℕ). take n l) e
drop_of_take (suc b) f [] = let e : suc b + f ≡ suc (b + f) = omega arith in ap (λ (n : ℕ). drop (suc b) (take {A = ℕ} n [])) e ∙ none f
  where
    none : (f : ℕ) → [] ≡ take {A = ℕ} f []
    none zero = refl
    none (suc f) = refl
drop_of_take (suc b) f (x ∷ l) =
    let e : suc b + f ≡ suc (b + f) = omega arith in
    ap (λ (n : ℕ). drop (suc b) (take n (x ∷ l))) e ∙ drop_of_take b f l

-- with the logarithms of a relation it is the run's
pub whole_is : (m q rb rf : ℕ) (ns : List ℕ) (T : Tables) (t : Transcript)
    → outer_whole (log₂ q) (log₂ rb) (log₂ rf) T t ≡ outer_all (sizes_only m q rb rf ns) T (tau_steps (sizes_only m q rb rf ns) t)
unfolding outer_whole outer_all outer_steps fld_rows bin_rows outer_begin tau_steps terminals_left
whole_is m q rb rf ns T t = refl

-- ---- the row rounds leave the draws before them
pub rows-keep : (label : String) (n k : ℕ) (p : RowSteps) → k ≡ length p.steps.run_state.draws
    → take k (row_steps label 0 n p).steps.run_state.draws ≡ p.steps.run_state.draws
rows-keep label n k p h =
    let g = row-rounds label (length p.steps.sent) 0 n p (omega arith) in
    ap (take k) g.goes.draws ∙ take_at p.steps.run_state.draws g.rs k (sym h)

-- the tau of a system are read off the same elements
tau-same : (f o k : ℕ) (c d : List ℕ) → o + f ≤ k → take k (elements c) ≡ take k (elements d)
    → take f (drop o (elements c)) ≡ take f (drop o (elements d))
tau-same f o k c d h e =
    sym (drop_of_take o f (elements c))
    ∙ ap (drop o) (sym (take-take (o + f) k (elements c) h) ∙ ap (take (o + f)) e ∙ take-take (o + f) k (elements d) h)
    ∙ drop_of_take o f (elements d)

half-log : (n b : ℕ) → b < 62 → n ≡ 2 * 2 ^ b → log₂ (n / 2) ≡ b
half-log n b h e =
    let k : n / 2 ≡ 2 ^ b = omega arith in
    ap log₂ k ∙ log₂-pow b (omega arith)

row-eq : {p : Steps} {a b : Outer} → a ≡ b → ◌≡◌ {A = RowSteps} (record { steps = p; held = a }) (record { steps = p; held = b })
row-eq {p} e = ap (λ (x : Outer). record { steps = p; held = x }) e

-- what is held, with another list of tau
pub tau-eq : (high k w n : ℕ) (s : List ℕ) {tau sigma : List ℕ} → tau ≡ sigma → outer_in high tau k w n s ≡ outer_in high sigma k w n s
tau-eq high k w n s e = ap (λ (l : List ℕ). outer_in high l k w n s) e

module _ (l b f wb wf : ℕ) (lb : l + b < 62) (lf : l + f < 62) where
  -- ---- the start
  begins : (t u : Transcript) (p0 d1 bin0 fld0 s1 : List ℕ)
      → steps_in 0 (l + b + (l + f)) u [] d1 ≡ taus_of l b f t
      → EqTablePlaced wb (take (l + b) (elements d1)) bin0 (take (4 * wb) s1)
      → EqTablePlaced wf (take (l + f) (drop (l + b) (elements d1))) fld0 (drop (4 * wb) s1)
      → shared_in 0 (l + b + (l + f)) l b f 0 (l + b) 1 1 wb wf wb wf u p0 d1 s1 ≡ begin_of l b (tables_in wb wf bin0 fld0) (taus_of l b f t)
  begins t u p0 d1 bin0 fld0 s1 h0 hb hf =
      ap₂ (λ (x y : Outer). record { steps = steps_in 0 (l + b + (l + f)) u [] d1; bin = x; fld = y })
      (placed-outer l wb (take (l + b) (elements d1)) bin0 (take (4 * wb) s1) hb
      ∙ ap (λ (tau : List ℕ). outer_start l tau (table_at wb wb bin0) (table_at (2 * wb) wb bin0) (table_at (3 * wb) wb bin0))
      (sym (take-take (l + b) (l + b + (l + f)) (elements d1) (omega arith))))
      (placed-outer l wf (take (l + f) (drop (l + b) (elements d1))) fld0 (drop (4 * wb) s1) hf
      ∙ ap (λ (tau : List ℕ). outer_start l tau (table_at wf wf fld0) (table_at (2 * wf) wf fld0) (table_at (3 * wf) wf fld0))
      (sym (drop_of_take (l + b) (l + f) (elements d1))))
      ∙ ap (begin_of l b (tables_in wb wf bin0 fld0)) h0

  -- the same, of both blocks in one slice
  pub first-joined : (t u : Transcript) (p0 d1 s0 s1 : List ℕ) → length s0 ≡ 4 * wb + 4 * wf → length s1 ≡ 4 * wb + 4 * wf
      → steps_in 0 (l + b + (l + f)) u [] d1 ≡ taus_of l b f t
      → EqTablePlaced wb (take (l + b) (elements d1)) (take (4 * wb) s0) (take (4 * wb) s1)
      → EqTablePlaced wf (take (l + f) (drop (l + b) (elements d1))) (take (4 * wf) (drop (4 * wb) s0)) (take (4 * wf) (drop (4 * wb) s1))
      → shared_in 0 (l + b + (l + f)) l b f 0 (l + b) 1 1 wb wf wb wf u p0 d1 s1
      ≡ begin_of l b (tables_in wb wf (take (4 * wb) s0) (drop (4 * wb) s0)) (taus_of l b f t)
  first-joined t u p0 d1 s0 s1 l0 l1 h0 hb hf =
      begins t u p0 d1 (take (4 * wb) s0) (drop (4 * wb) s0) s1 h0 hb
      (subst (λ (z : List ℕ). EqTablePlaced wf (take (l + f) (drop (l + b) (elements d1))) z (drop (4 * wb) s1)) (behind s0 l0)
      (subst (λ (z : List ℕ). EqTablePlaced wf (take (l + f) (drop (l + b) (elements d1))) (take (4 * wf) (drop (4 * wb) s0)) z) (behind s1 l1) hf))
    where
      behind : (s : List ℕ) → length s ≡ 4 * wb + 4 * wf → take (4 * wf) (drop (4 * wb) s) ≡ drop (4 * wb) s
      behind s h = take_all (4 * wf) (drop (4 * wb) s) (rw (length-drop (4 * wb) s) (omega arith))

  -- ---- the row rounds of bin
  pub bin-rows : (a1 e1 a2 e2 o2 kb kf k3 : ℕ) (t2 t3 : Transcript) (p2 d2 s2 p3 d3 bin3 : List ℕ)
      → row_in a2 e2 o2 k3 wb 2 t3 p3 d3 bin3 ≡ row_steps "vs-out-rowbin-" 0 b (row_in a1 e1 0 kb wb (2 * 2 ^ b) t2 p2 d2 (take (4 * wb) s2))
      → record {
        steps = steps_in a2 e2 t3 p3 d3;
        bin = (row_in a2 e2 o2 k3 wb 2 t3 p3 d3 bin3).held;
        fld = outer_in 0 (take (0 + f) (drop (l + b) (elements d2))) kf wf (2 * 2 ^ f) (drop (4 * wb) s2);
      } ≡ bin_of b (shared_in a1 e1 0 b f 0 (l + b) kb kf wb wf (2 * 2 ^ b) (2 * 2 ^ f) t2 p2 d2 s2)
  bin-rows a1 e1 a2 e2 o2 kb kf k3 t2 t3 p2 d2 s2 p3 d3 bin3 h =
      let k : log₂ (2 * 2 ^ b / 2) ≡ 0 + b = half-log (2 * 2 ^ b) b (omega arith) refl ∙ omega arith in
      let e = h ∙ ap (row_steps "vs-out-rowbin-" 0 b) (row-eq (tau-eq 0 kb wb (2 * 2 ^ b) (take (4 * wb) s2) (ap (λ (n : ℕ). take n (drop 0 (elements
      d2))) k))) in
      ap (λ (R : RowSteps). record {
        steps = R.steps;
        bin = R.held;
        fld = outer_in 0 (take (0 + f) (drop (l + b) (elements d2))) kf wf (2 * 2 ^ f) (drop (4 * wb) s2);
      }) e

  -- ---- the row rounds of fld
  pub fld-rows : (a1 e1 a2 e2 a3 e3 o2 o3 kb kf k3 k4 : ℕ) (t2 t3 t4 : Transcript) (p2 d2 s2 p3 d3 bin3 p4 d4 fld4 : List ℕ)
      → e1 ≤ length (elements d2) → e1 ≤ e2 → l + b + f ≤ e1
      → row_in a2 e2 o2 k3 wb 2 t3 p3 d3 bin3 ≡ row_steps "vs-out-rowbin-" 0 b (row_in a1 e1 0 kb wb (2 * 2 ^ b) t2 p2 d2 (take (4 * wb) s2))
      → row_in a3 e3 o3 k4 wf 2 t4 p4 d4 fld4 ≡ row_steps "vs-out-rowfld-" 0 f (row_in a2 e2 (l + b) kf wf (2 * 2 ^ f) t3 p3 d3 (drop (4 * wb) s2))
      → record {
        steps = steps_in a3 e3 t4 p4 d4;
        bin = (row_in a2 e2 o2 k3 wb 2 t3 p3 d3 bin3).held;
        fld = (row_in a3 e3 o3 k4 wf 2 t4 p4 d4 fld4).held;
      } ≡ fld_of f (record {
        steps = steps_in a2 e2 t3 p3 d3;
        bin = (row_in a2 e2 o2 k3 wb 2 t3 p3 d3 bin3).held;
        fld = outer_in 0 (take (0 + f) (drop (l + b) (elements d2))) kf wf (2 * 2 ^ f) (drop (4 * wb) s2);
      })
  fld-rows a1 e1 a2 e2 a3 e3 o2 o3 kb kf k3 k4 t2 t3 t4 p2 d2 s2 p3 d3 bin3 p4 d4 fld4 he h12 hs h3 h4 =
      let r0 : RowSteps = row_in a1 e1 0 kb wb (2 * 2 ^ b) t2 p2 d2 (take (4 * wb) s2) in
      let same : take e1 (elements d3) ≡ take e1 (elements d2) =
      sym (take-take e1 e2 (elements d3) h12) ∙ ap (λ (R : RowSteps). take e1 R.steps.run_state.draws) h3
      ∙ rows-keep "vs-out-rowbin-" b e1 r0 (sym (length-take-le e1 (elements d2) he)) in
      let k : log₂ (2 * 2 ^ f / 2) ≡ 0 + f = half-log (2 * 2 ^ f) f (omega arith) refl ∙ omega arith in
      let g : take (log₂ (2 * 2 ^ f / 2)) (drop (l + b) (elements d3)) ≡ take (0 + f) (drop (l + b) (elements d2)) =
      ap (λ (n : ℕ). take n (drop (l + b) (elements d3))) k ∙ tau-same (0 + f) (l + b) e1 d3 d2 (omega arith) same in
      let e = h4 ∙ ap (row_steps "vs-out-rowfld-" 0 f) (row-eq (tau-eq 0 kf wf (2 * 2 ^ f) (drop (4 * wb) s2) g)) in
      ap (λ (R : RowSteps). record { steps = R.steps; bin = (row_in a2 e2 o2 k3 wb 2 t3 p3 d3 bin3).held; fld = R.held }) e

  -- ---- the whole
  pub joined : (a1 e1 a2 e2 a3 e3 o2 o3 kb kf k3 k4 : ℕ) (t u t2 t3 t4 t5 t6 : Transcript)
      (p0 d1 bin0 fld0 s1 p2 d2 s2 p3 d3 bin3 p4 d4 fld4 p5 d6 : List ℕ)
      → e1 ≤ length (elements d2) → e1 ≤ e2 → l + b + f ≤ e1
      → steps_in 0 (l + b + (l + f)) u [] d1 ≡ taus_of l b f t
      → EqTablePlaced wb (take (l + b) (elements d1)) bin0 (take (4 * wb) s1)
      → EqTablePlaced wf (take (l + f) (drop (l + b) (elements d1))) fld0 (drop (4 * wb) s1)
      → shared_in a1 e1 0 b f 0 (l + b) kb kf wb wf (2 * 2 ^ b) (2 * 2 ^ f) t2 p2 d2 s2
      ≡ shared_steps 0 l (shared_in 0 (l + b + (l + f)) l b f 0 (l + b) 1 1 wb wf wb wf u p0 d1 s1)
      → row_in a2 e2 o2 k3 wb 2 t3 p3 d3 bin3 ≡ row_steps "vs-out-rowbin-" 0 b (row_in a1 e1 0 kb wb (2 * 2 ^ b) t2 p2 d2 (take (4 * wb) s2))
      → row_in a3 e3 o3 k4 wf 2 t4 p4 d4 fld4 ≡ row_steps "vs-out-rowfld-" 0 f (row_in a2 e2 (l + b) kf wf (2 * 2 ^ f) t3 p3 d3 (drop (4 * wb) s2))
      → sent_in (a3 + 6) t5 p5 ≡ sent_each "vs-terminal-" 0 (three_in wb bin3 ++ three_in wf fld4) (sent_in a3 t4 p4)
      → steps_in 0 (e3 + 6) t6 [] d6 ≡ draw_times 6 (ascii "vs-alpha") (steps_in 0 e3 t5 [] d4)
      → steps_in (a3 + 6) (e3 + 6) t6 p5 d6 ≡ outer_whole l b f (tables_in wb wf bin0 fld0) t
  unfolding outer_whole
  joined a1 e1 a2 e2 a3 e3 o2 o3 kb kf k3 k4 t u t2 t3 t4 t5 t6 p0 d1 bin0 fld0 s1 p2 d2 s2 p3 d3 bin3 p4 d4 fld4 p5 d6 he h12 hs h0 hb hf h2 h3 h4 h5 h6 =
      drawn-sending 6 (a3 + 6) e3 (e3 + 6) (ascii "vs-alpha") t5 t6 p5 d4 d6 h6
      ∙ ap (draw_times 6 (ascii "vs-alpha"))
      (ap (beside (take e3 (elements d4))) h5
      ∙ sym (each-beside "vs-terminal-" 0 (three_in wb bin3 ++ three_in wf fld4) (take e3 (elements d4)) (sent_in a3 t4 p4)))
      ∙ ap end_of
      (fld-rows a1 e1 a2 e2 a3 e3 o2 o3 kb kf k3 k4 t2 t3 t4 p2 d2 s2 p3 d3 bin3 p4 d4 fld4 he h12 hs h3 h4
      ∙ ap (fld_of f)
      (bin-rows a1 e1 a2 e2 o2 kb kf k3 t2 t3 p2 d2 s2 p3 d3 bin3 h3
      ∙ ap (bin_of b) (h2 ∙ ap (shared_steps 0 l) (begins t u p0 d1 bin0 fld0 s1 h0 hb hf))))
