-- A schedule played on a transcript: what it absorbs is taken from the proof's elements, and the elements it draws are written down.
-- Source: document 01, "Hash and transcript" (absorbing, drawing).
-- Assumes nothing.
use Rattle.std.specs.Prelude.{List, [], ◌∷◌, ◌++◌, ℕ}
use Rattle.magnetar_field.specs.Gf128.{value}
use Rattle.magnetar_field.specs.Words.{words}
use Rattle.magnetar_hash.specs.Bytes.{word_bytes}
use Rattle.magnetar_hash.specs.declared.transcript.Transcript.{Transcript}
use Rattle.magnetar_hash.specs.Transcript as transcript
use Rattle.magnetar_protocol.specs.Proof.{part}
use Rattle.magnetar_schedule.specs.Schedule.{Event, absorb, draw}

-- the transcript, and the draws so far
pub record RunState : Type 0 where
  pub transcript : Transcript
  pub draws : List ℕ

-- nothing drawn so far
abbrev pub start : Transcript → RunState
start t = record { transcript = t; draws = [] }

-- elements are absorbed under a label
abbrev pub absorbing : List ℕ → List ℕ → RunState → RunState
absorbing label v p = record { transcript = transcript.absorbed p.transcript label (word_bytes (words v)); draws = p.draws }

-- an element is drawn under a label
abbrev pub drawing : List ℕ → RunState → RunState
drawing label p = record {
  transcript = transcript.drawn p.transcript label;
  draws = p.draws ++ (value (transcript.element (transcript.drawn p.transcript label)) ∷ []);
}

-- the events one after the other, with the proof's elements w
unfoldable pub run_events : List ℕ → List Event → RunState → RunState
run_events w [] p = p
run_events w (absorb label i n ∷ es) p = run_events w es (absorbing label (part i n w) p)
run_events w (draw label ∷ es) p = run_events w es (drawing label p)

-- the events played from the transcript t on, nothing drawn before
abbrev pub run_from : List ℕ → List Event → Transcript → RunState
run_from w es t = run_events w es (start t)
