-- A schedule under way. Only private contracts cite these definitions.
-- Assumes nothing.
use Rattle.std.specs.Prelude.{◌≡◌, List, [], ◌∷◌, ◌++◌, ℕ, ◌+◌, ◌*◌, ◌<◌, min, length, take, drop, replicate}
use Rattle.magnetar_field.specs.Words.{words, overlaid}
use Rattle.magnetar_hash.specs.Bytes.{ascii}
use Rattle.magnetar_schedule.specs.Schedule.{Event, absorb, draw, numbered, rounds, singles}
use Rattle.magnetar_schedule.specs.ScheduleRun.{RunState, run_events}
use Rattle.magnetar_prover.specs.declared.schedule_run.Stage.{Stage}

-- out is `was` with the words of v over it, of which n have found room
pub record Written (v was : List ℕ) (n : ℕ) (out : List ℕ) : Type 0 where
  pub count : n ≡ min (length v) (length was)
  pub list : out ≡ overlaid v was

-- the words vs are written behind those that are there
abbrev pub Adds : List ℕ → ℕ → List ℕ → ℕ → List ℕ → Type 0
Adds vs n out k last = (v was : List ℕ) → Written v was n out → Written (v ++ vs) was k last

-- the events left, the next element to absorb being at `next`, played on what the stage shows make the whole
pub record PartialRun (w was : List ℕ) (whole : RunState) (rest : List Event) (next : ℕ) (s : Stage) (out : List ℕ) : Type 0 where
  pub until : RunState
  pub transcript : s.transcript ≡ until.transcript
  pub written : Written (words until.draws) was s.written out
  pub place : 0 < s.left → drop s.place w ≡ drop next w
  pub all : run_events w (take s.left rest) until ≡ whole

-- the events lead from one stage to another, whatever comes after them
abbrev pub Runs : List ℕ → List Event → (from to : ℕ) → Stage → List ℕ → Stage → List ℕ → Type 0
Runs w es from to s out r last =
    (was : List ℕ) (whole : RunState) (rest : List Event)
    → PartialRun w was whole (es ++ rest) from s out
    → PartialRun w was whole rest to r last

-- the events up to the end of the outer rounds, of which a are shared and b and f are on rows
abbrev pub OuterRuns : List ℕ → (a b f : ℕ) → Stage → List ℕ → Stage → List ℕ → Type 0
OuterRuns w a b f s out r last =
    (was : List ℕ) (whole : RunState) (rest : List Event)
    → PartialRun w was whole
    (replicate (a + b) (draw (ascii "vs-tau-bin"))
    ++ (replicate (a + f) (draw (ascii "vs-tau-fld"))
    ++ (rounds (numbered "vs-out-shared-") 0 8 0 a
    ++ (rounds (numbered "vs-out-rowbin-") (8 * a) 4 0 b
    ++ (rounds (numbered "vs-out-rowfld-") (8 * a + 4 * b) 4 0 f
    ++ rest)))))
    0 s out
    → PartialRun w was whole rest (8 * a + 4 * b + 4 * f) r last

-- the events after them, with c inner rounds and n segments
abbrev pub InnerRuns : List ℕ → (c n : ℕ) → Stage → List ℕ → Stage → List ℕ → Type 0
InnerRuns w c n s out r last =
    (was : List ℕ) (whole : RunState) (first : ℕ)
    → PartialRun w was whole
    (singles (numbered "vs-terminal-") first 0 6
    ++ (replicate 6 (draw (ascii "vs-alpha"))
    ++ (rounds (λ _. ascii "vs-inner") (first + 6) 3 0 c
    ++ (absorb (ascii "vs-vz") (first + 6 + 3 * c) 1
    ∷ singles (numbered "vs-seg-") (first + 6 + 3 * c + 1) 0 n))))
    first s out
    → PartialRun w was whole [] (first + 6 + 3 * c + 1 + n) r last
