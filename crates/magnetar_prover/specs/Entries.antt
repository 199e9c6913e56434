-- The outcomes of the entries: which refusal applies, in rising order, the answer, and what each lent slice holds at exit.
-- Source: document 01, "The run" and "Who can be turned back"; the Rust's `prove_virtual_spartan`.
-- Assumes nothing.
use Rattle.std.specs.Prelude.{not, List, [], ◌∷◌, ◌++◌, ℕ, ◌+◌, ◌*◌, ◌/◌, ltb, length, take, drop, replicate}
use Rattle.magnetar_field.specs.Refusal.{unless_refused}
use Rattle.magnetar_field.specs.Sizes.{log₂}
use Rattle.magnetar_field.specs.Words.{elements, words, overlaid}
use Rattle.magnetar_hash.specs.declared.transcript.Transcript.{Transcript}
use Rattle.magnetar_protocol.specs.Shape.{sizes_only}
use Rattle.magnetar_protocol.specs.Draws.{draw_count}
use Rattle.magnetar_protocol.specs.RunTests.{outline_tests, counter_tests, proof_tests}
use Rattle.magnetar_schedule.specs.Schedule.{schedule}
use Rattle.magnetar_schedule.specs.ScheduleRun.{RunState, run_from}
use Rattle.magnetar_schedule.specs.Stepwise.{Steps, Tables, begin, tau_steps, outer_all, inner_all}
use Rattle.magnetar_matrix.specs.Batch.{Relation}
use Rattle.magnetar_layout.specs.Tests.{Tests, first_refusal, is_size, most_logins, most_rows, most_batch_rows, column_tests, layout_tests, room_test}
use Rattle.magnetar_hash.specs.Transcript.{TranscriptAnswer}

-- ---- what a run leaves, unless it is refused with z
-- the answer
abbrev pub answer_for : ℕ → Steps → Transcript → TranscriptAnswer
answer_for z p t = record { code = z; transcript = unless_refused z p.run_state.transcript t }

-- the words of the proof
abbrev pub proof_for : ℕ → Steps → List ℕ → List ℕ
proof_for z p proof = unless_refused z (overlaid (words p.sent) proof) proof

-- the words of the draws
abbrev pub draws_for : ℕ → Steps → List ℕ → List ℕ
draws_for z p draws = unless_refused z (overlaid (words p.run_state.draws) draws) draws

-- the scratch, of which n words are wanted
abbrev pub scratch_for : ℕ → ℕ → List ℕ → List ℕ
scratch_for z n s = unless_refused z (replicate n 0 ++ drop n s) s

-- ---- `run_events`: the first n events of the schedule of a relation by its sizes, with the words of a proof
abbrev pub run_to : Relation → (proof : List ℕ) → ℕ → Transcript → RunState
run_to r proof n t = run_from (elements proof) (take n (schedule r)) t

-- the number of its refusal, or 0
unfoldable pub play_refusal : Relation → (proof draws : List ℕ) → Transcript → ℕ
play_refusal r proof draws t =
    first_refusal 0
    (outline_tests r.m r.q r.bin.a.rows r.fld.a.rows r.lengths
    ++ (counter_tests t.squeeze_ctr ++ (room_test (2 * draw_count r) draws ++ proof_tests r proof)))

-- the answer
unfoldable pub play_answer : Relation → (proof draws : List ℕ) → ℕ → Transcript → TranscriptAnswer
play_answer r proof draws n t = record {
  code = play_refusal r proof draws t;
  transcript = unless_refused (play_refusal r proof draws t) (run_to r proof n t).transcript t;
}

-- the words of the draws
unfoldable pub play_draws : Relation → (proof draws : List ℕ) → ℕ → Transcript → List ℕ
play_draws r proof draws n t = unless_refused (play_refusal r proof draws t) (overlaid (words (run_to r proof n t).draws) draws) draws

-- ---- `inner_rounds`: m columns, segments of the lengths ns
unfoldable pub inner_rounds_refusal : (m : ℕ) → (ns proof draws s : List ℕ) → Transcript → ℕ
inner_rounds_refusal m ns proof draws s t =
    first_refusal 0
    (column_tests m ++ layout_tests (m / 2) ns
    ++ (counter_tests t.squeeze_ctr
    ++ (room_test (2 * log₂ m) draws ++ room_test (2 * (3 * log₂ m + 1 + length ns)) proof ++ room_test (6 * m) s)))

-- the run: the combined table is in the first 2m words of s, the folded z in the 2m words behind: its witness columns, then its public half
unfoldable pub inner_run_steps : Relation → (s : List ℕ) → Transcript → Steps
inner_run_steps r s t =
    inner_all r (elements (take (2 * r.m) s)) (elements (take r.m (drop (2 * r.m) s))) (elements (take r.m (drop (3 * r.m) s))) (begin t)

-- ---- `outer_rounds`: q logins, rb rows of bin and rf rows of fld
-- 1: the logins; 4: the rows, alone
abbrev pub count_tests : (q rb rf : ℕ) → Tests
count_tests q rb rf = (1, not (is_size 1 most_logins q)) ∷ (4, not (is_size 1 most_rows rb)) ∷ (4, not (is_size 1 most_rows rf)) ∷ []

-- 4: the rows for all logins
abbrev pub total_tests : (q rb rf : ℕ) → Tests
total_tests q rb rf = (4, ltb most_batch_rows (q * rb)) ∷ (4, ltb most_batch_rows (q * rf)) ∷ []

-- the elements that are drawn
abbrev pub outer_drawn : (l b f : ℕ) → ℕ
outer_drawn l b f = l + b + (l + f) + l + b + f + 6

-- and those that are sent
abbrev pub outer_sent : (l b f : ℕ) → ℕ
outer_sent l b f = 8 * l + 4 * b + 4 * f + 6

-- the words of both blocks
abbrev pub block_words : (q rb rf : ℕ) → ℕ
block_words q rb rf = 8 * (q * rb) + 8 * (q * rf)

-- the number of its refusal, or 0
unfoldable pub outer_rounds_refusal : (q rb rf : ℕ) → (proof draws s : List ℕ) → Transcript → ℕ
outer_rounds_refusal q rb rf proof draws s t =
    first_refusal 0
    (count_tests q rb rf ++ total_tests q rb rf
    ++ (counter_tests t.squeeze_ctr
    ++ (room_test (2 * outer_drawn (log₂ q) (log₂ rb) (log₂ rf)) draws ++ room_test (2 * outer_sent (log₂ q) (log₂ rb) (log₂ rf)) proof
    ++ room_test (block_words q rb rf) s)))

-- the table of n words at word i
abbrev pub table_at : ℕ → ℕ → List ℕ → List ℕ
table_at i n s = elements (take n (drop i s))

-- the tables a, b, c of both systems, in blocks whose tables are b and f words apart, at the start
abbrev pub tables_in : (b f : ℕ) → (bin fld : List ℕ) → Tables
tables_in b f bin fld = record {
  bin_a = table_at b b bin;
  bin_b = table_at (2 * b) b bin;
  bin_c = table_at (3 * b) b bin;
  fld_a = table_at f f fld;
  fld_b = table_at (2 * f) f fld;
  fld_c = table_at (3 * f) f fld;
}

-- the tables of both systems: four of 2 q rb words, then four of 2 q rf words; the first table of each four is not read
abbrev pub tables_of : (q rb rf : ℕ) → List ℕ → Tables
tables_of q rb rf s =
    tables_in (2 * (q * rb)) (2 * (q * rf)) (take (4 * (2 * (q * rb))) (take (block_words q rb rf) s)) (drop (4 * (2 * (q * rb))) (take (block_words q
    rb rf) s))

-- the run
unfoldable pub outer_run_steps : (q rb rf : ℕ) → List ℕ → Transcript → Steps
outer_run_steps q rb rf s t = outer_all (sizes_only 2 q rb rf []) (tables_of q rb rf s) (tau_steps (sizes_only 2 q rb rf []) t)
