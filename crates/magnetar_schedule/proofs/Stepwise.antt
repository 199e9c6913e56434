-- The prover's run step by step goes along the schedule: what it sends, what it draws, and that a verifier who is given its words hears
-- the same.
-- Assumes nothing.
use mathlib.Core.Path.{◌≡◌, refl, sym, ap, ap₂, ◌∙◌, subst, subst₂}
use mathlib.Core.List.{List, [], ◌∷◌, ◌++◌, append-nil}
use Prim.Native.Nat.{ℕ, suc, ◌+◌, ◌-◌, ◌*◌, ◌/◌}
use native.Mathlib.Nat.{add-zero}
use native.Mathlib.Omega.{arith}
use lib.ListN.{length, get_or, take, drop, replicate, length-append}
use lib.Seq.{take_at, drop_at, drop-append_seam, take-nil, take_all}
use Rattle.magnetar_field.specs.Tabulate.{tabulate}
use Rattle.magnetar_field.proofs.Tabulation.{tabulate-length}
use Rattle.magnetar_hash.specs.Bytes.{ascii}
use Rattle.magnetar_hash.specs.declared.transcript.Transcript.{Transcript}
use Rattle.magnetar_sumcheck_verifier.specs.Messages.{Outer, outer_start, outer_messages, inner_messages}
use Rattle.magnetar_matrix.specs.Batch.{Relation, Batch, PublicColumns, folded, public_folded}
use Rattle.magnetar_protocol.specs.Shape.{log_logins, log_bin, log_fld, log_cols, before_terminals, before_inner}
use Rattle.magnetar_protocol.specs.Draws.{Draws, draw_count, draws_of, login_point}
use Rattle.magnetar_schedule.specs.Schedule.{Event, absorb, draw, numbered, rounds, singles, schedule}
use Rattle.magnetar_schedule.specs.ScheduleRun.{run_from}
use Rattle.magnetar_protocol.specs.Checks.{combined}
use Rattle.magnetar_protocol.specs.Prover.{joined, interleaved}
use Rattle.magnetar_schedule.specs.Stepwise.{Steps, begin, send, draw_times, send_each, OuterSteps, shared_steps, RowSteps, row_steps, InnerSteps, Tables, tau_steps, outer_begin, bin_rows, fld_rows, outer_steps, terminals_left, outer_all, inner_run, segment_value, low_draws, ended, inner_all}
use Rattle.magnetar_schedule.proofs.Proving.{product_tables, outer_proving, outer_draws, proving}
use Rattle.magnetar_protocol.proofs.Chunks.{joined_length, interleaved-length, past}
use Rattle.magnetar_protocol.proofs.HonestParts.{outer-each, outer-count, inner-each, inner-count}
use Rattle.magnetar_schedule.proofs.StepLaws.{Goes, goes_none, goes_then, goes-send, goes-each, DrawsMany, draws-many, folds, SharedRounds, shared-rounds, RowRounds, row-rounds, InnerRounds, inner-rounds, binds, behind, inner-all-after}

-- where steps that start at n elements end
ends : {es : List Event} {p q : Steps} {rs v : List ℕ} (n k : ℕ) → Goes es p q rs v → length p.sent ≡ n → length v ≡ k
    → length q.sent ≡ n + k
ends {es} {p} {q} {rs} {v} n k g h l = ap length g.sent ∙ length-append p.sent v ∙ ap₂ ◌+◌ h l

-- ---- the run up to the alphas, with any tables
module _ (r : Relation) (T : Tables) (t : Transcript) where
  abbrev P₁ : Steps
  P₁ = draw_times (log_logins r + log_bin r) (ascii "vs-tau-bin") (begin t)

  abbrev P₂ : Steps
  P₂ = draw_times (log_logins r + log_fld r) (ascii "vs-tau-fld") P₁

  abbrev O₀ : OuterSteps
  O₀ = outer_begin r T P₂

  abbrev O₁ : OuterSteps
  O₁ = shared_steps 0 (log_logins r) O₀

  abbrev O₂ : OuterSteps
  O₂ = bin_rows r T O₁

  abbrev O₃ : OuterSteps
  O₃ = fld_rows r T O₂

  abbrev P₄ : Steps
  P₄ = send_each "vs-terminal-" 0 (terminals_left r T O₃) O₃.steps

  abbrev P₅ : Steps
  P₅ = draw_times 6 (ascii "vs-alpha") P₄

  outer-is : outer_all r T (tau_steps r t) ≡ P₅
  unfolding outer_all outer_steps tau_steps
  outer-is = refl

  -- ---- the parts
  taus-bin : DrawsMany (replicate (log_logins r + log_bin r) (draw (ascii "vs-tau-bin"))) (begin t) P₁ (log_logins r + log_bin r)
  taus-bin = draws-many (log_logins r + log_bin r) (ascii "vs-tau-bin") (begin t)

  taus-fld : DrawsMany (replicate (log_logins r + log_fld r) (draw (ascii "vs-tau-fld"))) P₁ P₂ (log_logins r + log_fld r)
  taus-fld = draws-many (log_logins r + log_fld r) (ascii "vs-tau-fld") P₁

  sent₂ : length P₂.sent ≡ 0
  sent₂ = ends 0 0 taus-fld.goes (ends 0 0 taus-bin.goes refl refl) refl

  sent₀ : length O₀.steps.sent ≡ 0 + 8 * 0
  unfolding outer_begin
  sent₀ = sent₂

  shareds : SharedRounds (rounds (numbered "vs-out-shared-") 0 8 0 (log_logins r)) O₀ O₁ (log_logins r)
  shareds = shared-rounds 0 0 (log_logins r) O₀ sent₀

  abbrev bin_start : RowSteps
  bin_start = record { steps = O₁.steps; held = O₁.bin }

  turns : (A C : Outer) (rs : List ℕ) (n : ℕ) → length rs ≡ n → length (interleaved (outer_messages A rs) (outer_messages C rs)) ≡ 8 * n
  turns A C rs n h =
      interleaved-length (outer_messages A rs) (outer_messages C rs) (outer-each A rs) (outer-each C rs) (outer-count C rs ∙ sym (outer-count A rs))
      ∙ ap (λ (k : ℕ). 8 * k) (outer-count A rs ∙ h)

  fours : (A : Outer) (rs : List ℕ) (n : ℕ) → length rs ≡ n → length (joined (outer_messages A rs)) ≡ 4 * n
  fours A rs n h = joined_length 4 (outer_messages A rs) (outer-each A rs) ∙ ap (λ (k : ℕ). 4 * k) (outer-count A rs ∙ h)

  sent₃ : length O₁.steps.sent ≡ 0 + 8 * 0 + 8 * log_logins r
  sent₃ = ends (0 + 8 * 0) (8 * log_logins r) shareds.goes sent₀ (turns O₀.bin O₀.fld shareds.rs (log_logins r) shareds.count)

  rows-bin : RowRounds (rounds (numbered "vs-out-rowbin-") (8 * log_logins r) 4 0 (log_bin r)) bin_start
      (row_steps "vs-out-rowbin-" 0 (log_bin r) bin_start) (log_bin r)
  rows-bin = row-rounds "vs-out-rowbin-" (8 * log_logins r) 0 (log_bin r) bin_start (sent₃ ∙ omega arith)

  sent₄ : length O₂.steps.sent ≡ 8 * log_logins r + 4 * log_bin r
  unfolding bin_rows
  sent₄ = ends (8 * log_logins r) (4 * log_bin r) rows-bin.goes (sent₃ ∙ omega arith) (fours O₁.bin rows-bin.rs (log_bin r) rows-bin.count)

  abbrev fld_start : RowSteps
  fld_start = record { steps = O₂.steps; held = O₂.fld }

  rows-fld : RowRounds (rounds (numbered "vs-out-rowfld-") (8 * log_logins r + 4 * log_bin r) 4 0 (log_fld r)) fld_start
      (row_steps "vs-out-rowfld-" 0 (log_fld r) fld_start) (log_fld r)
  rows-fld = row-rounds "vs-out-rowfld-" (8 * log_logins r + 4 * log_bin r) 0 (log_fld r) fld_start (sent₄ ∙ omega arith)

  sent₅ : length O₃.steps.sent ≡ before_terminals r
  unfolding fld_rows
  sent₅ = ends (8 * log_logins r + 4 * log_bin r) (4 * log_fld r) rows-fld.goes sent₄ (fours O₂.fld rows-fld.rs (log_fld r) rows-fld.count)

  ending : Goes (singles (numbered "vs-terminal-") (before_terminals r) 0 6) O₃.steps P₄ [] (terminals_left r T O₃)
  unfolding terminals_left
  ending = goes-each "vs-terminal-" (before_terminals r) 0 (terminals_left r T O₃) O₃.steps (sent₅ ∙ sym (add-zero (before_terminals r)))

  alphas : DrawsMany (replicate 6 (draw (ascii "vs-alpha"))) P₄ P₅ 6
  alphas = draws-many 6 (ascii "vs-alpha") P₄

  sent₆ : length P₅.sent ≡ before_inner r
  unfolding terminals_left
  sent₆ = ends (before_terminals r + 6) 0 alphas.goes (ends (before_terminals r) 6 ending sent₅ refl) refl ∙ add-zero (before_inner r)

  -- ---- what the provers of the two systems hold
  pub tau-bin : List ℕ
  tau-bin = taus-bin.rs

  pub tau-fld : List ℕ
  tau-fld = taus-fld.rs

  pub shared : List ℕ
  shared = shareds.rs

  pub row-bin : List ℕ
  row-bin = rows-bin.rs

  pub row-fld : List ℕ
  row-fld = rows-fld.rs

  pub alpha : List ℕ
  alpha = alphas.rs

  abbrev pub bin_at_start : Outer
  bin_at_start = outer_start (log_logins r) tau-bin T.bin_a T.bin_b T.bin_c

  abbrev pub fld_at_start : Outer
  fld_at_start = outer_start (log_logins r) tau-fld T.fld_a T.fld_b T.fld_c

  drawn₂ : P₂.run_state.draws ≡ tau-bin ++ tau-fld
  unfolding tau-bin tau-fld
  drawn₂ = taus-fld.goes.draws ∙ ap (λ (l : List ℕ). l ++ taus-fld.rs) taus-bin.goes.draws

  bin₀ : O₀.bin ≡ bin_at_start
  unfolding outer_begin tau-bin
  bin₀ = ap (λ (l : List ℕ). outer_start (log_logins r) l T.bin_a T.bin_b T.bin_c)
      (ap (take (log_logins r + log_bin r)) drawn₂ ∙ take_at tau-bin tau-fld (log_logins r + log_bin r) taus-bin.count)

  fld₀ : O₀.fld ≡ fld_at_start
  unfolding outer_begin tau-bin
  fld₀ = ap (λ (l : List ℕ). outer_start (log_logins r) l T.fld_a T.fld_b T.fld_c)
      (ap (drop (log_logins r + log_bin r)) drawn₂ ∙ drop_at tau-bin tau-fld (log_logins r + log_bin r) taus-bin.count)

  bin₁ : O₁.bin ≡ folds shared bin_at_start
  unfolding shared
  bin₁ = shareds.bin ∙ ap (folds shareds.rs) bin₀

  fld₁ : O₁.fld ≡ folds shared fld_at_start
  unfolding shared
  fld₁ = shareds.fld ∙ ap (folds shareds.rs) fld₀

  fld₂ : O₂.fld ≡ folds shared fld_at_start
  unfolding bin_rows
  fld₂ = fld₁

  bin₃ : O₃.bin ≡ folds row-bin (folds shared bin_at_start)
  unfolding bin_rows fld_rows row-bin
  bin₃ = rows-bin.held ∙ ap (folds rows-bin.rs) bin₁

  fld₃ : O₃.fld ≡ folds row-fld (folds shared fld_at_start)
  unfolding fld_rows row-fld
  fld₃ = rows-fld.held ∙ ap (folds rows-fld.rs) fld₂

  -- the first entries of the tables that are left
  abbrev pub left_of : Outer → Outer → List ℕ
  left_of A C = get_or A.a 0 0 ∷ get_or A.b 0 0 ∷ get_or A.c 0 0 ∷ get_or C.a 0 0 ∷ get_or C.b 0 0 ∷ get_or C.c 0 0 ∷ []

  abbrev pub ends-bin : Outer
  ends-bin = folds row-bin (folds shared bin_at_start)

  abbrev pub ends-fld : Outer
  ends-fld = folds row-fld (folds shared fld_at_start)

  left_is : terminals_left r T O₃ ≡ left_of ends-bin ends-fld
  unfolding terminals_left
  left_is = ap₂ left_of bin₃ fld₃

  -- ---- all of it, and then other steps
  abbrev pub outer_events : List Event → List Event
  outer_events es =
      replicate (log_logins r + log_bin r) (draw (ascii "vs-tau-bin"))
      ++ (replicate (log_logins r + log_fld r) (draw (ascii "vs-tau-fld"))
      ++ (rounds (numbered "vs-out-shared-") 0 8 0 (log_logins r)
      ++ (rounds (numbered "vs-out-rowbin-") (8 * log_logins r) 4 0 (log_bin r)
      ++ (rounds (numbered "vs-out-rowfld-") (8 * log_logins r + 4 * log_bin r) 4 0 (log_fld r)
      ++ (singles (numbered "vs-terminal-") (before_terminals r) 0 6
      ++ (replicate 6 (draw (ascii "vs-alpha")) ++ es))))))

  abbrev pub outer_drawn : List ℕ → List ℕ
  outer_drawn ds = tau-bin ++ (tau-fld ++ (shared ++ (row-bin ++ (row-fld ++ (alpha ++ ds)))))

  abbrev pub outer_sent : List ℕ → List ℕ
  outer_sent v =
      interleaved (outer_messages bin_at_start shared) (outer_messages fld_at_start shared)
      ++ (joined (outer_messages (folds shared bin_at_start) row-bin)
      ++ (joined (outer_messages (folds shared fld_at_start) row-fld)
      ++ (left_of ends-bin ends-fld ++ v)))

  sent-as : (A C A₁ C₁ : Outer) (l v : List ℕ) → A ≡ bin_at_start → C ≡ fld_at_start → A₁ ≡ folds shared bin_at_start → C₁ ≡ folds shared fld_at_start
      → l ≡ left_of ends-bin ends-fld
      → interleaved (outer_messages A shared) (outer_messages C shared)
      ++ (joined (outer_messages A₁ row-bin) ++ (joined (outer_messages C₁ row-fld) ++ (l ++ v))) ≡ outer_sent v
  sent-as A C A₁ C₁ l v e f g h k = λ j. interleaved (outer_messages (e j) shared) (outer_messages (f j) shared)
      ++ (joined (outer_messages (g j) row-bin) ++ (joined (outer_messages (h j) row-fld) ++ (k j ++ v)))

  goes-outer : {es : List Event} {q : Steps} {ds v : List ℕ} → Goes es P₅ q ds v → Goes (outer_events es) (begin t) q (outer_drawn ds) (outer_sent v)
  unfolding outer_begin bin_rows fld_rows tau-bin tau-fld shared row-bin row-fld alpha
  goes-outer {es} {q} {ds} {v} g =
      subst (λ (u : List ℕ). Goes (outer_events es) (begin t) q (outer_drawn ds) u)
      (sent-as O₀.bin O₀.fld O₁.bin O₂.fld (terminals_left r T O₃) v bin₀ fld₀ bin₁ fld₂ left_is)
      (goes_then taus-bin.goes (goes_then taus-fld.goes (goes_then shareds.goes (goes_then rows-bin.goes
      (goes_then rows-fld.goes (goes_then ending (goes_then alphas.goes g)))))))

  -- ---- lengths
  pub tau-bin-length : length tau-bin ≡ log_logins r + log_bin r
  unfolding tau-bin
  tau-bin-length = taus-bin.count

  pub tau-fld-length : length tau-fld ≡ log_logins r + log_fld r
  unfolding tau-fld
  tau-fld-length = taus-fld.count

  pub shared-length : length shared ≡ log_logins r
  unfolding shared
  shared-length = shareds.count

  pub row-bin-length : length row-bin ≡ log_bin r
  unfolding row-bin
  row-bin-length = rows-bin.count

  pub row-fld-length : length row-fld ≡ log_fld r
  unfolding row-fld
  row-fld-length = rows-fld.count

  pub alpha-length : length alpha ≡ 6
  unfolding alpha
  alpha-length = alphas.count

  outer_goes : Goes (outer_events []) (begin t) (outer_all r T (tau_steps r t)) (outer_drawn []) (outer_sent [])
  outer_goes = subst (λ (q : Steps). Goes (outer_events []) (begin t) q (outer_drawn []) (outer_sent [])) (sym outer-is) (goes-outer (goes_none P₅))

  pub outer-draws : (outer_all r T (tau_steps r t)).run_state.draws ≡ outer_drawn []
  outer-draws = outer_goes.draws

  pub outer-sent-length : length (outer_all r T (tau_steps r t)).sent ≡ before_inner r
  outer-sent-length = ap (λ (q : Steps). length q.sent) outer-is ∙ sent₆

  drawn-length : (ds : List ℕ) → length (outer_drawn ds)
      ≡ (log_logins r + log_bin r) + ((log_logins r + log_fld r) + (log_logins r + (log_bin r + (log_fld r + (6 + length ds)))))
  drawn-length ds =
      length-append tau-bin _ ∙ ap₂ ◌+◌ tau-bin-length (length-append tau-fld _ ∙ ap₂ ◌+◌ tau-fld-length (length-append shared _
      ∙ ap₂ ◌+◌ shared-length (length-append row-bin _ ∙ ap₂ ◌+◌ row-bin-length (length-append row-fld _ ∙ ap₂ ◌+◌ row-fld-length
      (length-append alpha ds ∙ ap (λ (k : ℕ). k + length ds) alpha-length)))))

  pub outer-draws-length : length (outer_all r T (tau_steps r t)).run_state.draws ≡ draw_count r - log_cols r
  outer-draws-length = ap length outer-draws ∙ drawn-length [] ∙ omega arith

  -- ---- the draws taken apart
  pub draws-are : (ds : List ℕ) → draws_of r (outer_drawn ds)
      ≡ record { tau_bin = tau-bin; tau_fld = tau-fld; shared = shared; row_bin = row-bin; row_fld = row-fld; alphas = alpha; inner = take (log_cols r) ds }
  unfolding draws_of
  draws-are ds = λ j. record {
    tau_bin = take_at tau-bin after₁ (log_logins r + log_bin r) tau-bin-length j;
    tau_fld = (ap (take (log_logins r + log_fld r)) at₁ ∙ take_at tau-fld after₂ (log_logins r + log_fld r) tau-fld-length) j;
    shared = (ap (take (log_logins r)) at₂ ∙ take_at shared after₃ (log_logins r) shared-length) j;
    row_bin = (ap (take (log_bin r)) at₃ ∙ take_at row-bin after₄ (log_bin r) row-bin-length) j;
    row_fld = (ap (take (log_fld r)) at₄ ∙ take_at row-fld after₅ (log_fld r) row-fld-length) j;
    alphas = (ap (take 6) at₅ ∙ take_at alpha ds 6 alpha-length) j;
    inner = ap (take (log_cols r)) at₆ j;
  }
    where
      after₅ : List ℕ
      after₅ = alpha ++ ds

      after₄ : List ℕ
      after₄ = row-fld ++ after₅

      after₃ : List ℕ
      after₃ = row-bin ++ after₄

      after₂ : List ℕ
      after₂ = shared ++ after₃

      after₁ : List ℕ
      after₁ = tau-fld ++ after₂

      at₁ : drop (log_logins r + log_bin r) (outer_drawn ds) ≡ after₁
      at₁ = drop_at tau-bin after₁ (log_logins r + log_bin r) tau-bin-length

      at₂ : drop (log_logins r + log_bin r + (log_logins r + log_fld r)) (outer_drawn ds) ≡ after₂
      at₂ = past (log_logins r + log_bin r) (log_logins r + log_fld r) (outer_drawn ds) tau-fld after₂ at₁ tau-fld-length

      at₃ : drop (log_logins r + log_bin r + (log_logins r + log_fld r) + log_logins r) (outer_drawn ds) ≡ after₃
      at₃ = past (log_logins r + log_bin r + (log_logins r + log_fld r)) (log_logins r) (outer_drawn ds) shared after₃ at₂ shared-length

      at₄ : drop (log_logins r + log_bin r + (log_logins r + log_fld r) + log_logins r + log_bin r) (outer_drawn ds) ≡ after₄
      at₄ = past (log_logins r + log_bin r + (log_logins r + log_fld r) + log_logins r) (log_bin r) (outer_drawn ds) row-bin after₄ at₃ row-bin-length

      at₅ : drop (log_logins r + log_bin r + (log_logins r + log_fld r) + log_logins r + log_bin r + log_fld r) (outer_drawn ds) ≡ after₅
      at₅ = past (log_logins r + log_bin r + (log_logins r + log_fld r) + log_logins r + log_bin r) (log_fld r) (outer_drawn ds) row-fld after₅ at₄
          row-fld-length

      at₆ : drop (log_logins r + log_bin r + (log_logins r + log_fld r) + log_logins r + log_bin r + log_fld r + 6) (outer_drawn ds) ≡ ds
      at₆ = past (log_logins r + log_bin r + (log_logins r + log_fld r) + log_logins r + log_bin r + log_fld r) 6 (outer_drawn ds) alpha ds at₅ alpha-length

-- ---- the inner rounds, v_z and the segment values, behind steps that sent n elements
module _ (r : Relation) (c f half : List ℕ) (p : Steps) (n : ℕ) (h : length p.sent ≡ n) where
  abbrev I₀ : InnerSteps
  I₀ = record { steps = p; table = c; z = f ++ half }

  abbrev I₁ : InnerSteps
  I₁ = inner_run r c f half p

  inners : InnerRounds (rounds (λ _. ascii "vs-inner") n 3 0 (log_cols r)) I₀ I₁ (log_cols r)
  unfolding inner_run
  inners = inner-rounds n 0 (log_cols r) I₀ (h ∙ first n)
    where
      first : (n : ℕ) → n ≡ n + 3 * 0
      first n = omega arith

  pub inner-drawn : List ℕ
  inner-drawn = inners.rs

  pub inner-drawn-length : length inner-drawn ≡ log_cols r
  unfolding inner-drawn
  inner-drawn-length = inners.count

  rounds-sent : length I₁.steps.sent ≡ n + 3 * log_cols r
  rounds-sent = ends n (3 * log_cols r) inners.goes h
      (joined_length 3 (inner_messages c (f ++ half) inners.rs) (inner-each c (f ++ half) inners.rs)
      ∙ ap (λ (k : ℕ). 3 * k) (inner-count c (f ++ half) inners.rs ∙ inners.count))

  abbrev low : List ℕ
  low = low_draws r c f half (length p.run_state.draws) I₁.steps

  abbrev P₆ : Steps
  P₆ = send (ascii "vs-vz") (get_or I₁.z 0 0 ∷ []) I₁.steps

  abbrev segs : List ℕ
  segs = tabulate (segment_value r c f half low) (length r.lengths)

  vz : Goes (absorb (ascii "vs-vz") (n + 3 * log_cols r) 1 ∷ []) I₁.steps P₆ [] (get_or I₁.z 0 0 ∷ [])
  vz = goes-send (ascii "vs-vz") (get_or I₁.z 0 0 ∷ []) (n + 3 * log_cols r) 1 I₁.steps rounds-sent refl

  each : Goes (singles (numbered "vs-seg-") (n + 3 * log_cols r + 1) 0 (length r.lengths)) P₆ (inner_all r c f half p) [] segs
  unfolding inner_all ended
  each = subst (λ (k : ℕ). Goes (singles (numbered "vs-seg-") (n + 3 * log_cols r + 1) 0 k) P₆ (send_each "vs-seg-" 0 segs P₆) [] segs)
      (tabulate-length (segment_value r c f half low) (length r.lengths))
      (goes-each "vs-seg-" (n + 3 * log_cols r + 1) 0 segs P₆ (ends (n + 3 * log_cols r) 1 vz rounds-sent refl ∙ sym (add-zero (n + 3 * log_cols r + 1))))

  pub low-is : low ≡ take (log_cols r - 1) inner-drawn
  unfolding low_draws inner-drawn
  low-is = ap (take (log_cols r - 1)) (ap (drop (length p.run_state.draws)) inners.goes.draws
      ∙ drop-append_seam p.run_state.draws inners.rs)

  abbrev pub inner_events : List Event
  inner_events = rounds (λ _. ascii "vs-inner") n 3 0 (log_cols r)
      ++ (absorb (ascii "vs-vz") (n + 3 * log_cols r) 1 ∷ singles (numbered "vs-seg-") (n + 3 * log_cols r + 1) 0 (length r.lengths))

  -- what is sent, from the draws
  abbrev pub inner_sent : List ℕ
  inner_sent =
      joined (inner_messages c (f ++ half) inner-drawn)
      ++ (get_or (binds inner-drawn (f ++ half)) 0 0 ∷ tabulate (segment_value r c f half (take (log_cols r - 1) inner-drawn)) (length r.lengths))

  pub goes-inner : Goes inner_events p (inner_all r c f half p) inner-drawn inner_sent
  unfolding inner-drawn
  goes-inner =
      subst₂ (λ (ds v : List ℕ). Goes inner_events p (inner_all r c f half p) ds v) (append-nil inners.rs)
      (λ j. joined (inner_messages c (f ++ half) inners.rs)
      ++ (get_or (inners.z j) 0 0 ∷ tabulate (segment_value r c f half (low-is j)) (length r.lengths)))
      (goes_then inners.goes (goes_then vz each))

  pub inner-sent-length : length inner_sent ≡ 3 * log_cols r + 1 + length r.lengths
  unfolding inner-drawn
  inner-sent-length =
      length-append (joined (inner_messages c (f ++ half) inners.rs)) _
      ∙ ap₂ ◌+◌ (joined_length 3 (inner_messages c (f ++ half) inners.rs) (inner-each c (f ++ half) inners.rs)
      ∙ ap (λ (k : ℕ). 3 * k) (inner-count c (f ++ half) inners.rs ∙ inners.count))
      (ap suc (tabulate-length (segment_value r c f half (take (log_cols r - 1) inners.rs)) (length r.lengths)))
      ∙ more (3 * log_cols r) (length r.lengths)
    where
      more : (a l : ℕ) → a + suc l ≡ a + 1 + l
      more a l = omega arith

-- ---- the whole run
module _ (r : Relation) (b : Batch) (x : PublicColumns) (t : Transcript) where
  abbrev T : Tables
  T = product_tables r b x

  abbrev c : List ℕ
  c = combined r (outer_draws r b x t)

  abbrev f : List ℕ
  f = folded r.q (r.m / 2) b (login_point (outer_draws r b x t))

  abbrev half : List ℕ
  half = public_folded r.q (r.m / 2) x (login_point (outer_draws r b x t))

  outer-proving-length : length (outer_proving r b x t).sent ≡ before_inner r
  unfolding outer_proving
  outer-proving-length = outer-sent-length r T t

  pub inner_of : List ℕ
  inner_of = inner-drawn r c f half (outer_proving r b x t) (before_inner r) outer-proving-length

  pub inner-of-length : length inner_of ≡ log_cols r
  unfolding inner_of
  inner-of-length = inner-drawn-length r c f half (outer_proving r b x t) (before_inner r) outer-proving-length

  -- v_z and the segment values, from the draws of the inner rounds
  abbrev pub last_sent : List ℕ → List ℕ
  last_sent ds =
      joined (inner_messages c (f ++ half) ds)
      ++ (get_or (binds ds (f ++ half)) 0 0 ∷ tabulate (segment_value r c f half (take (log_cols r - 1) ds)) (length r.lengths))

  goes-proving : Goes (schedule r) (begin t) (proving r b x t) (outer_drawn r T t inner_of) (outer_sent r T t (last_sent inner_of))
  unfolding schedule proving outer_proving inner_of outer_all outer_steps tau_steps
  goes-proving = goes-outer r T t (goes-inner r c f half (outer_proving r b x t) (before_inner r) outer-proving-length)

  -- all draws, and all words
  pub proving-draws : (proving r b x t).run_state.draws ≡ outer_drawn r T t inner_of
  proving-draws = goes-proving.draws

  pub proving-sent : (proving r b x t).sent ≡ outer_sent r T t (last_sent inner_of)
  proving-sent = goes-proving.sent

  -- the verifier that is given the words plays the same
  pub plays-the-same : run_from (proving r b x t).sent (schedule r) t ≡ (proving r b x t).run_state
  plays-the-same = goes-proving.plays (proving r b x t).sent [] (sym (append-nil (proving r b x t).sent))

  -- the run up to the alphas comes first
  pub proving-after : proving r b x t ≡ behind (outer_proving r b x t) (inner_all r c f half (begin (outer_proving r b x t).run_state.transcript))
  unfolding proving
  proving-after = inner-all-after r c f half (outer_proving r b x t)

  pub outer-proving-sent : length (outer_proving r b x t).sent ≡ before_inner r
  outer-proving-sent = outer-proving-length

  pub outer-proving-count : length (outer_proving r b x t).run_state.draws ≡ draw_count r - log_cols r
  unfolding outer_proving
  outer-proving-count = outer-draws-length r T t

  -- the parts of the draws, up to the alphas and in all
  pub outer-parts : outer_draws r b x t
      ≡ record {
        tau_bin = tau-bin r T t;
        tau_fld = tau-fld r T t;
        shared = shared r T t;
        row_bin = row-bin r T t;
        row_fld = row-fld r T t;
        alphas = alpha r T t;
        inner = [];
      }
  unfolding outer_proving
  outer-parts = ap (draws_of r) (outer-draws r T t) ∙ draws-are r T t [] ∙ λ j. record {
    tau_bin = tau-bin r T t;
    tau_fld = tau-fld r T t;
    shared = shared r T t;
    row_bin = row-bin r T t;
    row_fld = row-fld r T t;
    alphas = alpha r T t;
    inner = take-nil (log_cols r) j;
  }

  abbrev pub parts : Draws
  parts = record {
    tau_bin = tau-bin r T t;
    tau_fld = tau-fld r T t;
    shared = shared r T t;
    row_bin = row-bin r T t;
    row_fld = row-fld r T t;
    alphas = alpha r T t;
    inner = inner_of;
  }

  pub parts_are : draws_of r (proving r b x t).run_state.draws ≡ parts
  parts_are = ap (draws_of r) proving-draws ∙ draws-are r T t inner_of ∙ λ j. record {
    tau_bin = tau-bin r T t;
    tau_fld = tau-fld r T t;
    shared = shared r T t;
    row_bin = row-bin r T t;
    row_fld = row-fld r T t;
    alphas = alpha r T t;
    inner = (take_all (log_cols r) inner_of (rw inner-of-length (omega arith))) j;
  }
