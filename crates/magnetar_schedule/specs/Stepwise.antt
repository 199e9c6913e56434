-- The prover's run step by step, as its functions make it: what it sends is absorbed and added to the proof, and what it draws is
-- drawn. The contracts of the prover's parts cite it (`magnetar_prover`, `magnetar_spartan` specs/Proving); no theorem and no outcome of
-- an entry does. proofs/ProverRun shows that its draws, words and transcript are those of specs/RealRun.
-- Source: the Rust's `prove_virtual_spartan`, step by step.
-- Assumes nothing.
use Rattle.std.specs.Prelude.{List, [], ◌∷◌, ◌++◌, ℕ, zero, suc, ◌+◌, ◌-◌, length, get_or, take, drop}
use Prim.Native.String.{String}
use Rattle.magnetar_field.specs.Gf128.{value}
use Rattle.magnetar_field.specs.Tabulate.{tabulate}
use Rattle.magnetar_multilinear.specs.Multilinear.{mle, bind_var}
use Rattle.magnetar_hash.specs.Bytes.{ascii}
use Rattle.magnetar_hash.specs.declared.transcript.Transcript.{Transcript}
use Rattle.magnetar_hash.specs.Transcript as transcript
use Rattle.magnetar_sumcheck_verifier.specs.Inner.{inner_message}
use Rattle.magnetar_sumcheck_verifier.specs.Messages.{Outer, outer_start, outer_next, outer_fold}
use Rattle.magnetar_matrix.specs.Batch.{Relation}
use Rattle.magnetar_layout.specs.Layout.{offset, local_vars}
use Rattle.magnetar_protocol.specs.Shape.{log_logins, log_bin, log_fld, log_cols}
use Rattle.magnetar_schedule.specs.Schedule.{numbered}
use Rattle.magnetar_schedule.specs.ScheduleRun.{RunState, start, absorbing, drawing}

-- the run so far: the transcript with the draws, and the proof's elements
pub record Steps : Type 0 where
  pub run_state : RunState
  pub sent : List ℕ

-- nothing sent or drawn so far
abbrev pub begin : Transcript → Steps
begin t = record { run_state = start t; sent = [] }

-- elements are sent: absorbed under a label, and added to the proof
abbrev pub send : List ℕ → List ℕ → Steps → Steps
send label v p = record { run_state = absorbing label v p.run_state; sent = p.sent ++ v }

-- an element is drawn
abbrev pub draw_one : List ℕ → Steps → Steps
draw_one label p = record { run_state = drawing label p.run_state; sent = p.sent }

-- the element that was drawn last
abbrev pub last_drawn : Steps → ℕ
last_drawn p = value (transcript.element p.run_state.transcript)

-- n elements are drawn
unfoldable pub draw_times : ℕ → List ℕ → Steps → Steps
draw_times zero label p = p
draw_times (suc n) label p = draw_times n label (draw_one label p)

-- elements are sent one at a time, from number i on
unfoldable pub send_each : String → ℕ → List ℕ → Steps → Steps
send_each label i [] p = p
send_each label i (v ∷ vs) p = send_each label (suc i) vs (send (numbered label i) (v ∷ []) p)

-- ---- the outer rounds
-- the run, and what the prover of each system holds
pub record OuterSteps : Type 0 where
  pub steps : Steps
  pub bin : Outer
  pub fld : Outer

-- both are folded by the element drawn last
abbrev pub folded_both : Steps → OuterSteps → OuterSteps
folded_both s p = record { steps = s; bin = outer_fold (last_drawn s) p.bin; fld = outer_fold (last_drawn s) p.fld }

-- shared round i: both messages are sent at once
unfoldable pub shared_step : ℕ → OuterSteps → OuterSteps
shared_step i p =
    folded_both (draw_one (numbered "vs-out-shared-" i) (send (numbered "vs-out-shared-" i) (outer_next p.bin ++ outer_next p.fld) p.steps)) p

-- n shared rounds from round i on
unfoldable pub shared_steps : (i n : ℕ) → OuterSteps → OuterSteps
shared_steps i zero p = p
shared_steps i (suc n) p = shared_steps (suc i) n (shared_step i p)

-- the run, and what the prover of one system holds
pub record RowSteps : Type 0 where
  pub steps : Steps
  pub held : Outer

-- it is folded by the element drawn last
abbrev pub folded_one : Steps → RowSteps → RowSteps
folded_one s p = record { steps = s; held = outer_fold (last_drawn s) p.held }

-- row round i of one system
unfoldable pub row_step : String → ℕ → RowSteps → RowSteps
row_step label i p = folded_one (draw_one (numbered label i) (send (numbered label i) (outer_next p.held) p.steps)) p

-- n row rounds from round i on
unfoldable pub row_steps : String → (i n : ℕ) → RowSteps → RowSteps
row_steps label i zero p = p
row_steps label i (suc n) p = row_steps label (suc i) n (row_step label i p)

-- ---- the inner rounds
-- the run, the combined table and the folded z
pub record InnerSteps : Type 0 where
  pub steps : Steps
  pub table : List ℕ
  pub z : List ℕ

-- both tables with their lowest variable bound to the element drawn last
abbrev pub bound : Steps → InnerSteps → InnerSteps
bound s p = record { steps = s; table = bind_var 0 (last_drawn s) p.table; z = bind_var 0 (last_drawn s) p.z }

-- an inner round, which binds the lowest variable
unfoldable pub inner_step : InnerSteps → InnerSteps
inner_step p = bound (draw_one (ascii "vs-inner") (send (ascii "vs-inner") (inner_message 0 p.table p.z) p.steps)) p

-- n inner rounds
unfoldable pub inner_steps : ℕ → InnerSteps → InnerSteps
inner_steps zero p = p
inner_steps (suc n) p = inner_steps n (inner_step p)

-- ---- all of them
-- the products of the six matrices and the z of every login: bin a, b, c, fld a, b, c
pub record Tables : Type 0 where
  pub bin_a : List ℕ
  pub bin_b : List ℕ
  pub bin_c : List ℕ
  pub fld_a : List ℕ
  pub fld_b : List ℕ
  pub fld_c : List ℕ

module _ (r : Relation) where
  -- the two taus
  unfoldable pub tau_steps : Transcript → Steps
  tau_steps t = draw_times (log_logins r + log_fld r) (ascii "vs-tau-fld") (draw_times (log_logins r + log_bin r) (ascii "vs-tau-bin") (begin t))

  -- the outer rounds, the terminals and the alphas
  module _ (T : Tables) where
    -- after the taus, which are the draws so far
    unfoldable pub outer_begin : Steps → OuterSteps
    outer_begin p = record {
      steps = p;
      bin = outer_start (log_logins r) (take (log_logins r + log_bin r) p.run_state.draws) T.bin_a T.bin_b T.bin_c;
      fld = outer_start (log_logins r) (drop (log_logins r + log_bin r) p.run_state.draws) T.fld_a T.fld_b T.fld_c;
    }

    -- the row rounds of bin
    unfoldable pub bin_rows : OuterSteps → OuterSteps
    bin_rows q = record {
      steps = (row_steps "vs-out-rowbin-" 0 (log_bin r) (record { steps = q.steps; held = q.bin })).steps;
      bin = (row_steps "vs-out-rowbin-" 0 (log_bin r) (record { steps = q.steps; held = q.bin })).held;
      fld = q.fld;
    }

    -- and of fld
    unfoldable pub fld_rows : OuterSteps → OuterSteps
    fld_rows q = record {
      steps = (row_steps "vs-out-rowfld-" 0 (log_fld r) (record { steps = q.steps; held = q.fld })).steps;
      bin = q.bin;
      fld = (row_steps "vs-out-rowfld-" 0 (log_fld r) (record { steps = q.steps; held = q.fld })).held;
    }

    -- all outer rounds
    unfoldable pub outer_steps : Steps → OuterSteps
    outer_steps p = fld_rows (bin_rows (shared_steps 0 (log_logins r) (outer_begin p)))

    -- the first entry of each table that is left
    unfoldable pub terminals_left : OuterSteps → List ℕ
    terminals_left q =
        get_or q.bin.a 0 0 ∷ get_or q.bin.b 0 0 ∷ get_or q.bin.c 0 0 ∷ get_or q.fld.a 0 0 ∷ get_or q.fld.b 0 0
        ∷ get_or q.fld.c 0 0 ∷ []

    -- the outer rounds, the terminals and the alphas, after the taus
    unfoldable pub outer_all : Steps → Steps
    outer_all p = draw_times 6 (ascii "vs-alpha") (send_each "vs-terminal-" 0 (terminals_left (outer_steps p)) (outer_steps p).steps)

  -- the inner rounds, v_z and the segment values, with the combined table t and the folded z: its witness columns f and its public half h
  module _ (t f h : List ℕ) where
    -- all inner rounds
    unfoldable pub inner_run : Steps → InnerSteps
    inner_run p = inner_steps (log_cols r) (record { steps = p; table = t; z = f ++ h })

    -- the value of segment i at the low point of the draws
    unfoldable pub segment_value : List ℕ → ℕ → ℕ
    segment_value low i = mle (take (get_or r.lengths i 0) (drop (offset r.lengths i) f)) (take (local_vars r.lengths i) low)

    -- the challenges of the inner rounds but the last one, n draws having been made before
    unfoldable pub low_draws : ℕ → Steps → List ℕ
    low_draws n p = take (log_cols r - 1) (drop n p.run_state.draws)

    -- v_z and the segment values are sent
    unfoldable pub ended : List ℕ → InnerSteps → Steps
    ended low q =
        send_each "vs-seg-" 0 (tabulate (segment_value low) (length r.lengths)) (send (ascii "vs-vz") (get_or q.z 0 0 ∷ []) q.steps)

    -- the inner rounds, v_z and the segment values
    unfoldable pub inner_all : Steps → Steps
    inner_all p = ended (low_draws (length p.run_state.draws) (inner_run p).steps) (inner_run p)
