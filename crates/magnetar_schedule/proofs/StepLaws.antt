-- The prover's steps: what each of them draws, says and makes of the transcript, which is what the schedule makes of it when the
-- proof holds what is sent. And its steps behind others.
-- Assumes nothing.
use mathlib.Core.Path.{◌≡◌, refl, sym, ap, ap₂, ◌∙◌, subst}
use mathlib.Core.List.{List, [], ◌∷◌, ◌++◌, append-nil, append_assoc}
use Prim.Native.Nat.{ℕ, zero, suc, ◌+◌, ◌-◌, ◌*◌}
use Prim.Native.String.{String}
use native.Mathlib.Omega.{arith}
use native.Mathlib.Nat.{mul-suc}
use lib.ListN.{length, get_or, take, drop, replicate, length-append}
use lib.Seq.{take_at, drop_at, drop-append-add}
use Rattle.magnetar_hash.specs.Bytes.{ascii}
use Rattle.magnetar_sumcheck_verifier.specs.Outer.{outer_message, times_eq}
use Rattle.magnetar_sumcheck_verifier.specs.Inner.{inner_message, inner_sums}
use Rattle.magnetar_sumcheck_verifier.specs.Messages.{Outer, outer_next, outer_fold, outer_messages, inner_messages}
use Rattle.magnetar_field.specs.Tabulate.{tabulate}
use Rattle.magnetar_multilinear.specs.Multilinear.{bind_var}
use Rattle.magnetar_matrix.specs.Batch.{Relation}
use Rattle.magnetar_protocol.specs.Shape.{log_cols}
use Rattle.magnetar_protocol.specs.Proof.{part}
use Rattle.magnetar_schedule.specs.Schedule.{Event, absorb, draw, numbered, rounds, singles}
use Rattle.magnetar_schedule.specs.ScheduleRun.{run_events, absorbing}
use Rattle.magnetar_protocol.specs.Prover.{joined, interleaved}
use Rattle.magnetar_schedule.specs.Stepwise.{Steps, begin, send, draw_one, last_drawn, draw_times, send_each, OuterSteps, shared_step, shared_steps, RowSteps, row_step, row_steps, InnerSteps, inner_step, inner_steps, inner_run, segment_value, low_draws, ended, inner_all}
use Rattle.magnetar_schedule.proofs.Counts.{play-append, onto}

-- ---- steps from p to q that draw rs and say v, along the events es
pub record Goes (es : List Event) (p q : Steps) (rs v : List ℕ) : Type 0 where
  pub draws : q.run_state.draws ≡ p.run_state.draws ++ rs
  pub sent : q.sent ≡ p.sent ++ v
  pub plays : (w post : List ℕ) → w ≡ q.sent ++ post → run_events w es p.run_state ≡ q.run_state

pub goes_none : (p : Steps) → Goes [] p p [] []
unfolding run_events
goes_none p = record { draws = sym (append-nil p.run_state.draws); sent = sym (append-nil p.sent); plays = λ w post h. refl }

pub goes_then : {es fs : List Event} {p q s : Steps} {rs v rs' v' : List ℕ} → Goes es p q rs v → Goes fs q s rs' v'
    → Goes (es ++ fs) p s (rs ++ rs') (v ++ v')
goes_then {es} {fs} {p} {q} {s} {rs} {v} {rs'} {v'} a b = record {
  draws = b.draws ∙ ap (λ (l : List ℕ). l ++ rs') a.draws ∙ append_assoc p.run_state.draws rs rs';
  sent = b.sent ∙ ap (λ (l : List ℕ). l ++ v') a.sent ∙ append_assoc p.sent v v';
  plays = λ w post h. play-append w es fs p.run_state
      ∙ ap (run_events w fs) (a.plays w (v' ++ post) (h ∙ ap (λ (l : List ℕ). l ++ post) b.sent ∙ append_assoc q.sent v' post))
      ∙ b.plays w post h;
}

-- what is sent is found at its place
there : (u v post : List ℕ) (i n : ℕ) → length u ≡ i → length v ≡ n → part i n ((u ++ v) ++ post) ≡ v
there u v post i n hu hv =
    ap (λ (l : List ℕ). take n (drop i l)) (append_assoc u v post) ∙ ap (take n) (drop_at u (v ++ post) i hu) ∙ take_at v post n hv

pub goes-send : (l v : List ℕ) (i n : ℕ) (p : Steps) → length p.sent ≡ i → length v ≡ n → Goes (absorb l i n ∷ []) p (send l v p) [] v
unfolding run_events
goes-send l v i n p hi hn = record {
  draws = sym (append-nil p.run_state.draws);
  sent = refl;
  plays = λ w post h. ap (λ (e : List ℕ). absorbing l e p.run_state) (ap (part i n) h ∙ there p.sent v post i n hi hn);
}

pub goes-draw : (l : List ℕ) (p : Steps) → Goes (draw l ∷ []) p (draw_one l p) (last_drawn (draw_one l p) ∷ []) []
unfolding run_events
goes-draw l p = record { draws = refl; sent = sym (append-nil p.sent); plays = λ w post h. refl }

-- a message of a round, and its challenge
pub goes-round : (l v : List ℕ) (i n : ℕ) (p : Steps) → length p.sent ≡ i → length v ≡ n
    → Goes (absorb l i n ∷ draw l ∷ []) p (draw_one l (send l v p)) (last_drawn (draw_one l (send l v p)) ∷ []) v
goes-round l v i n p hi hn =
    subst (λ (u : List ℕ). Goes (absorb l i n ∷ draw l ∷ []) p (draw_one l (send l v p)) (last_drawn (draw_one l (send l v p)) ∷ []) u) (append-nil v)
    (goes_then (goes-send l v i n p hi hn) (goes-draw l (send l v p)))

-- ---- elements that are sent one at a time
pub goes-each : (label : String) (first i : ℕ) (vs : List ℕ) (p : Steps) → length p.sent ≡ first + i
    → Goes (singles (numbered label) first i (length vs)) p (send_each label i vs p) [] vs
unfolding singles send_each
goes-each label first i [] p h = goes_none p
goes-each label first i (v ∷ vs) p h =
    goes_then (goes-send (numbered label i) (v ∷ []) (first + i) 1 p h refl)
    (goes-each label first (suc i) vs (send (numbered label i) (v ∷ []) p) (length-append p.sent (v ∷ []) ∙ more first i h))
  where
    more : {n : ℕ} (first i : ℕ) → n ≡ first + i → n + 1 ≡ first + suc i
    more first i e = omega arith

-- ---- n draws
pub record DrawsMany (es : List Event) (p q : Steps) (n : ℕ) : Type 0 where
  pub rs : List ℕ
  pub count : length rs ≡ n
  pub goes : Goes es p q rs []

pub draws-many : (n : ℕ) (l : List ℕ) (p : Steps) → DrawsMany (replicate n (draw l)) p (draw_times n l p) n
unfolding draw_times
draws-many zero l p = record { rs = []; count = refl; goes = goes_none p }
draws-many (suc n) l p =
    let a : DrawsMany (replicate n (draw l)) (draw_one l p) (draw_times n l (draw_one l p)) n = draws-many n l (draw_one l p) in
    record { rs = last_drawn (draw_one l p) ∷ a.rs; count = ap suc a.count; goes = goes_then (goes-draw l p) a.goes }

-- ---- the outer rounds
-- what a prover holds after rounds with the challenges rs
abbrev pub folds : List ℕ → Outer → Outer
folds [] S = S
folds (r ∷ rs) S = folds rs (outer_fold r S)

pub folds-append : (rs ts : List ℕ) (S : Outer) → folds (rs ++ ts) S ≡ folds ts (folds rs S)
folds-append [] ts S = refl
folds-append (r ∷ rs) ts S = folds-append rs ts (outer_fold r S)

pub messages-append : (rs ts : List ℕ) (S : Outer) → outer_messages S (rs ++ ts) ≡ outer_messages S rs ++ outer_messages (folds rs S) ts
unfolding outer_messages
messages-append [] ts S = refl
messages-append (r ∷ rs) ts S = ap (λ (l : List (List ℕ)). outer_next S ∷ l) (messages-append rs ts (outer_fold r S))

next-length : (S : Outer) → length (outer_next S) ≡ 4
unfolding outer_next outer_message times_eq
next-length S = refl

pub record SharedRounds (es : List Event) (p q : OuterSteps) (n : ℕ) : Type 0 where
  pub rs : List ℕ
  pub count : length rs ≡ n
  pub goes : Goes es p.steps q.steps rs (interleaved (outer_messages p.bin rs) (outer_messages p.fld rs))
  pub bin : q.bin ≡ folds rs p.bin
  pub fld : q.fld ≡ folds rs p.fld

-- the place of the next message
placed : (u v : List ℕ) (first size i : ℕ) → length u ≡ first + size * i → length v ≡ size → length (u ++ v) ≡ first + size * suc i
placed u v first size i h k = length-append u v ∙ omega (arith, mul-suc size i)

both-length : (p : OuterSteps) → length (outer_next p.bin ++ outer_next p.fld) ≡ 8
both-length p = length-append (outer_next p.bin) (outer_next p.fld) ∙ ap₂ ◌+◌ (next-length p.bin) (next-length p.fld)

pub shared-rounds : (first i n : ℕ) (p : OuterSteps) → length p.steps.sent ≡ first + 8 * i
    → SharedRounds (rounds (numbered "vs-out-shared-") first 8 i n) p (shared_steps i n p) n
unfolding rounds shared_steps shared_step outer_messages interleaved
shared-rounds first i zero p h = record { rs = []; count = refl; goes = goes_none p.steps; bin = refl; fld = refl }
shared-rounds first i (suc n) p h =
    let b : SharedRounds (rounds (numbered "vs-out-shared-") first 8 (suc i) n) (shared_step i p) (shared_steps (suc i) n (shared_step i p)) n =
    shared-rounds first (suc i) n (shared_step i p)
    (placed p.steps.sent (outer_next p.bin ++ outer_next p.fld) first 8 i h (both-length p))
    in
    record {
      rs = last_drawn (shared_step i p).steps ∷ b.rs;
      count = ap suc b.count;
      goes = subst (λ (u : List ℕ). Goes (rounds (numbered "vs-out-shared-") first 8 i (suc n)) p.steps (shared_steps i (suc n) p).steps
          (last_drawn (shared_step i p).steps ∷ b.rs) u)
          (append_assoc (outer_next p.bin) (outer_next p.fld)
          (interleaved (outer_messages (shared_step i p).bin b.rs) (outer_messages (shared_step i p).fld b.rs)))
          (goes_then (goes-round (numbered "vs-out-shared-" i) (outer_next p.bin ++ outer_next p.fld) (first + 8 * i) 8 p.steps h (both-length p))
          b.goes);
      bin = b.bin;
      fld = b.fld;
    }

pub record RowRounds (es : List Event) (p q : RowSteps) (n : ℕ) : Type 0 where
  pub rs : List ℕ
  pub count : length rs ≡ n
  pub goes : Goes es p.steps q.steps rs (joined (outer_messages p.held rs))
  pub held : q.held ≡ folds rs p.held

pub row-rounds : (label : String) (first i n : ℕ) (p : RowSteps) → length p.steps.sent ≡ first + 4 * i
    → RowRounds (rounds (numbered label) first 4 i n) p (row_steps label i n p) n
unfolding rounds row_steps row_step outer_messages joined
row-rounds label first i zero p h = record { rs = []; count = refl; goes = goes_none p.steps; held = refl }
row-rounds label first i (suc n) p h =
    let b : RowRounds (rounds (numbered label) first 4 (suc i) n) (row_step label i p) (row_steps label (suc i) n (row_step label i p)) n =
    row-rounds label first (suc i) n (row_step label i p) (placed p.steps.sent (outer_next p.held) first 4 i h (next-length p.held))
    in
    record {
      rs = last_drawn (row_step label i p).steps ∷ b.rs;
      count = ap suc b.count;
      goes = goes_then (goes-round (numbered label i) (outer_next p.held) (first + 4 * i) 4 p.steps h (next-length p.held)) b.goes;
      held = b.held;
    }

-- ---- the inner rounds
-- a table with its lowest variables bound to the challenges
abbrev pub binds : List ℕ → List ℕ → List ℕ
binds [] t = t
binds (r ∷ rs) t = binds rs (bind_var 0 r t)

inner-length : (t z : List ℕ) → length (inner_message 0 t z) ≡ 3
unfolding inner_message inner_sums
inner-length t z = refl

pub record InnerRounds (es : List Event) (p q : InnerSteps) (n : ℕ) : Type 0 where
  pub rs : List ℕ
  pub count : length rs ≡ n
  pub goes : Goes es p.steps q.steps rs (joined (inner_messages p.table p.z rs))
  pub z : q.z ≡ binds rs p.z

pub inner-rounds : (first i n : ℕ) (p : InnerSteps) → length p.steps.sent ≡ first + 3 * i
    → InnerRounds (rounds (λ _. ascii "vs-inner") first 3 i n) p (inner_steps n p) n
unfolding rounds inner_steps inner_step inner_messages joined
inner-rounds first i zero p h = record { rs = []; count = refl; goes = goes_none p.steps; z = refl }
inner-rounds first i (suc n) p h =
    let b : InnerRounds (rounds (λ _. ascii "vs-inner") first 3 (suc i) n) (inner_step p) (inner_steps n (inner_step p)) n =
    inner-rounds first (suc i) n (inner_step p)
    (placed p.steps.sent (inner_message 0 p.table p.z) first 3 i h (inner-length p.table p.z))
    in
    record {
      rs = last_drawn (inner_step p).steps ∷ b.rs;
      count = ap suc b.count;
      goes = goes_then (goes-round (ascii "vs-inner") (inner_message 0 p.table p.z) (first + 3 * i) 3 p.steps h
          (inner-length p.table p.z)) b.goes;
      z = b.z;
    }

-- ---- steps behind others
-- p, and behind it the steps q
abbrev pub behind : Steps → Steps → Steps
behind p q = record { run_state = onto p.run_state.draws q.run_state; sent = p.sent ++ q.sent }

abbrev behind_inner : Steps → InnerSteps → InnerSteps
behind_inner p q = record { steps = behind p q.steps; table = q.table; z = q.z }

send-behind : (l v : List ℕ) (p q : Steps) → send l v (behind p q) ≡ behind p (send l v q)
send-behind l v p q = λ j. record {
  run_state = absorbing l v (onto p.run_state.draws q.run_state);
  sent = append_assoc p.sent q.sent v j;
}

draw-behind : (l : List ℕ) (p q : Steps) → draw_one l (behind p q) ≡ behind p (draw_one l q)
draw-behind l p q = λ j. record {
  run_state = record {
    transcript = (draw_one l q).run_state.transcript;
    draws = append_assoc p.run_state.draws q.run_state.draws (last_drawn (draw_one l q) ∷ []) j;
  };
  sent = p.sent ++ q.sent;
}

inner-behind : (p : Steps) (q : InnerSteps) → inner_step (behind_inner p q) ≡ behind_inner p (inner_step q)
unfolding inner_step
inner-behind p q = λ j. record {
  steps = ((ap (draw_one (ascii "vs-inner")) (send-behind (ascii "vs-inner") (inner_message 0 q.table q.z) p q.steps))
      ∙ draw-behind (ascii "vs-inner") p (send (ascii "vs-inner") (inner_message 0 q.table q.z) q.steps)) j;
  table = (inner_step q).table;
  z = (inner_step q).z;
}

pub rounds-behind : (n : ℕ) (p : Steps) (q : InnerSteps) → inner_steps n (behind_inner p q) ≡ behind_inner p (inner_steps n q)
unfolding inner_steps
rounds-behind zero p q = refl
rounds-behind (suc n) p q = ap (inner_steps n) (inner-behind p q) ∙ rounds-behind n p (inner_step q)

pub each-behind : (label : String) (i : ℕ) (vs : List ℕ) (p q : Steps) → send_each label i vs (behind p q) ≡ behind p (send_each label i vs q)
unfolding send_each
each-behind label i [] p q = refl
each-behind label i (v ∷ vs) p q =
    ap (send_each label (suc i) vs) (send-behind (numbered label i) (v ∷ []) p q)
    ∙ each-behind label (suc i) vs p (send (numbered label i) (v ∷ []) q)

-- every run is behind its beginning
pub behind-none : (p : Steps) → p ≡ behind p (begin p.run_state.transcript)
behind-none p = λ j. record {
  run_state = record { transcript = p.run_state.transcript; draws = sym (append-nil p.run_state.draws) j };
  sent = sym (append-nil p.sent) j;
}

-- the inner rounds, v_z and the segment values behind any other steps
module _ (r : Relation) (t f half : List ℕ) where
  run-behind : (p q : Steps) → inner_run r t f half (behind p q) ≡ behind_inner p (inner_run r t f half q)
  unfolding inner_run
  run-behind p q = rounds-behind (log_cols r) p (record { steps = q; table = t; z = f ++ half })

  low-behind : (p q s : Steps) → low_draws r t f half (length (behind p q).run_state.draws) (behind p s) ≡ low_draws r t f half (length q.run_state.draws) s
  unfolding low_draws
  low-behind p q s =
      ap (λ (n : ℕ). take (log_cols r - 1) (drop n (p.run_state.draws ++ s.run_state.draws))) (length-append p.run_state.draws q.run_state.draws)
      ∙ ap (take (log_cols r - 1)) (drop-append-add p.run_state.draws s.run_state.draws (length q.run_state.draws))

  ended-behind : (low : List ℕ) (p : Steps) (q : InnerSteps) → ended r t f half low (behind_inner p q) ≡ behind p (ended r t f half low q)
  unfolding ended
  ended-behind low p q =
      ap (send_each "vs-seg-" 0 (tabulate (segment_value r t f half low) (length r.lengths)))
      (send-behind (ascii "vs-vz") (get_or q.z 0 0 ∷ []) p q.steps)
      ∙ each-behind "vs-seg-" 0 (tabulate (segment_value r t f half low) (length r.lengths)) p
      (send (ascii "vs-vz") (get_or q.z 0 0 ∷ []) q.steps)

  pub inner-all-behind : (p q : Steps) → inner_all r t f half (behind p q) ≡ behind p (inner_all r t f half q)
  unfolding inner_all
  inner-all-behind p q =
      ap (λ (s : InnerSteps). ended r t f half (low_draws r t f half (length (behind p q).run_state.draws) s.steps) s) (run-behind p q)
      ∙ ap (λ (low : List ℕ). ended r t f half low (behind_inner p (inner_run r t f half q))) (low-behind p q (inner_run r t f half q).steps)
      ∙ ended-behind (low_draws r t f half (length q.run_state.draws) (inner_run r t f half q).steps) p (inner_run r t f half q)

  -- the transcript, the draws and the words of these steps behind p are p's and theirs
  pub inner-all-after : (p : Steps) → inner_all r t f half p ≡ behind p (inner_all r t f half (begin p.run_state.transcript))
  inner-all-after p = ap (inner_all r t f half) (behind-none p) ∙ inner-all-behind p (begin p.run_state.transcript)
