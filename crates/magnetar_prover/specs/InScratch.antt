-- The state of a run, read off the slices that hold it. Only the contracts of private functions speak of this.
-- Assumes nothing.
use Rattle.std.specs.Prelude.{◌≡◌, List, [], ◌∷◌, ◌++◌, ℕ, suc, ◌+◌, ◌*◌, ◌/◌, ◌^◌, ◌≤◌, ◌<◌, length, get_or, take, drop}
use Prim.Native.String.{String}
use Rattle.magnetar_field.specs.Sizes.{log₂}
use Rattle.magnetar_field.specs.Tabulate.{tabulate}
use Rattle.magnetar_field.specs.Words.{elements, words}
use Rattle.magnetar_hash.specs.declared.transcript.Transcript.{Transcript}
use Rattle.magnetar_multilinear.specs.Multilinear.{mle}
use Rattle.magnetar_multilinear.specs.EqTable.{eq_table}
use Rattle.magnetar_sumcheck_verifier.specs.Messages.{Outer}
use Rattle.magnetar_layout.specs.Layout.{offset, local_vars}
use Rattle.magnetar_hash.specs.Bytes.{word_bytes, ascii}
use Rattle.magnetar_hash.specs.Transcript.{absorbed}
use Rattle.magnetar_schedule.specs.Schedule.{numbered}
use Rattle.magnetar_schedule.specs.Stepwise.{Steps, InnerSteps, RowSteps, begin, send, send_each, inner_steps}
use Rattle.magnetar_prover.specs.Entries.{table_at}

-- the transcript t, with the first a elements of the proof sent and the first d elements drawn
abbrev pub steps_in : (a d : ℕ) → Transcript → (proof draws : List ℕ) → Steps
steps_in a d t proof draws = record {
  run_state = record { transcript = t; draws = take d (elements draws) };
  sent = take a (elements proof);
}

-- an inner round of m columns with tables of n words: the combined table at the front of s, z behind its 2m words
abbrev pub inner_in : (m n a d : ℕ) → Transcript → (proof draws s : List ℕ) → InnerSteps
inner_in m n a d t proof draws s = record {
  steps = steps_in a d t proof draws;
  table = table_at 0 n s;
  z = table_at (2 * m) n s;
}

-- n words are a table that has a variable v
pub record Table (v n : ℕ) : Type 0 where
  pub vars : ℕ
  pub var : v < vars
  pub few : vars < 62
  pub size : n ≡ 2 * 2 ^ vars

-- s with its first n words at word a
abbrev pub pasted : ℕ → ℕ → List ℕ → List ℕ
pasted a n s = take a s ++ take n s ++ drop (a + n) s

-- the value of segment i of the folded columns f, the elements d having been drawn
abbrev pub segment_in : List ℕ → List ℕ → List ℕ → ℕ → ℕ
segment_in ns f d i = mle (take (get_or ns i 0) (drop (offset ns i) f)) (take (local_vars ns i) d)

-- a segment of n columns among w, with a local point in so many words of draws
pub record Local (w n words : ℕ) : Type 0 where
  pub most : n ≤ w
  pub power : n ≡ 2 ^ log₂ n
  pub few : log₂ n ≤ 16
  pub drawn : 2 * log₂ n ≤ words

-- and so for each segment
pub record Locals (w : ℕ) (ns : List ℕ) (words : ℕ) : Type 0 where
  pub each : (i : ℕ) → i < length ns → Local w (get_or ns i 0) words

-- one element is absorbed
abbrev pub absorbed_one : Transcript → List ℕ → ℕ → Transcript
absorbed_one t label v = absorbed t label (word_bytes (words (v ∷ [])))

-- the transcript, and what is sent
pub record Sent : Type 0 where
  pub transcript : Transcript
  pub sent : List ℕ

-- the same, with the first a elements of the proof
abbrev pub sent_in : ℕ → Transcript → List ℕ → Sent
sent_in a t proof = record { transcript = t; sent = take a (elements proof) }

-- elements are sent one at a time, from number i on
unfoldable pub sent_each : String → ℕ → List ℕ → Sent → Sent
sent_each label i [] p = p
sent_each label i (v ∷ vs) p = sent_each label (suc i) vs (record { transcript = absorbed_one p.transcript (numbered label i) v; sent = p.sent ++ (v ∷ []) })

-- the first entries of the tables a, b, c of a block whose tables are w words apart
abbrev pub three_in : ℕ → List ℕ → List ℕ
three_in w s = get_or (table_at w 2 s) 0 0 ∷ get_or (table_at (2 * w) 2 s) 0 0 ∷ get_or (table_at (3 * w) 2 s) 0 0 ∷ []

-- the block s is s₀ with the eq table of tau in its first w words
pub record EqTablePlaced (w : ℕ) (tau s₀ s : List ℕ) : Type 0 where
  pub table : table_at 0 w s ≡ eq_table tau
  pub rest : drop w s ≡ drop w s₀

-- v_z and the segment values, after the inner rounds
unfoldable pub inner_ended : List ℕ → List ℕ → InnerSteps → Steps
inner_ended ns f q =
    send_each "vs-seg-" 0 (tabulate (segment_in ns f q.steps.run_state.draws) (length ns)) (send (ascii "vs-vz") (get_or q.z 0 0 ∷ []) q.steps)

-- k inner rounds, v_z and the segment values, with the table t and the folded z: its witness columns f and its public half h
unfoldable pub inner_whole : ℕ → (ns t f h : List ℕ) → Transcript → Steps
inner_whole k ns t f h u = inner_ended ns f (inner_steps k (record { steps = begin u; table = t; z = f ++ h }))

-- ---- the outer rounds
-- what the prover of a system holds in a block of tables of n words, w words apart, with so many high variables and the tau of the
-- variables that are left
abbrev pub outer_in : (high : ℕ) → List ℕ → (k w n : ℕ) → List ℕ → Outer
outer_in high tau k w n s = record {
  high = high;
  tau = tau;
  k = k;
  e = table_at 0 n s;
  a = table_at w n s;
  b = table_at (2 * w) n s;
  c = table_at (3 * w) n s;
}

-- a row round: the tau of the variables that are left stand from element o of the draws on
abbrev pub row_in : (a d o k w n : ℕ) → Transcript → (proof draws s : List ℕ) → RowSteps
row_in a d o k w n t proof draws s = record {
  steps = steps_in a d t proof draws;
  held = outer_in 0 (take (log₂ (n / 2)) (drop o (elements draws))) k w n s;
}

-- tables of n words with a variable left, whose tau stand from element o of the draws on, in front of element d
pub record Rows (n o d : ℕ) : Type 0 where
  pub table : Table 0 n
  pub before : o + log₂ (n / 2) ≤ d
