-- The transcript: a state of 32 bytes and the count of the draws since the last bytes were absorbed.
-- Source: document 01, "Hash and transcript" and "Who can be turned back" (11, 14, 15 and 17); the Rust's `Transcript`.
-- Assumes nothing.
use Rattle.std.specs.Prelude.{ℕ, zero, suc, ◌+◌, ◌*◌, ◌%◌, ◌^◌, Bool, cond, Result, Ok, Err, List, [], ◌∷◌, ◌++◌, length, take, drop, ◌==◌, nat_lt}
use Rattle.magnetar_field.specs.declared.gf128.Gf128.{Gf128}
use Rattle.magnetar_field.specs.declared.refusal.Refusal.{Refusal}
use Rattle.magnetar_field.specs.Number.{number as number_of_refusal}
use Rattle.magnetar_hash.specs.Bytes.{le_bytes, number, word_bytes, ascii}
use Rattle.magnetar_hash.specs.Parts.{sha3_domain, parts, total_length, no_digest}
use Rattle.magnetar_hash.specs.declared.transcript.Transcript.{Transcript}
use Rattle.magnetar_hash.specs.declared.transcript.Drawn.{Drawn}

-- a state, and no draw since
abbrev pub counter_zero : List ℕ → Transcript
counter_zero s = record { state = s; squeeze_ctr = 0 }

-- a new transcript, bound to a protocol and its public parts
unfoldable pub new_transcript : List ℕ → List (List ℕ) → Transcript
new_transcript protocol public = counter_zero (sha3_domain (ascii "magnetar/transcript/v1" ∷ protocol ∷ public))

-- bytes are absorbed under a label
unfoldable pub absorbed : Transcript → List ℕ → List ℕ → Transcript
absorbed t label bytes = counter_zero (sha3_domain (t.state ∷ ascii "absorb" ∷ label ∷ bytes ∷ []))

-- a draw under a label; the counter is a word of 64 bits
unfoldable pub drawn : Transcript → List ℕ → Transcript
drawn t label =
    record {
      state = sha3_domain (t.state ∷ ascii "squeeze" ∷ label ∷ le_bytes 8 t.squeeze_ctr ∷ []);
      squeeze_ctr = (t.squeeze_ctr + 1) % 2 ^ 64;
    }

-- the element of the draw that led to a transcript: the first 16 bytes of its state, the low word first
unfoldable pub element : Transcript → Gf128
element t = record { lo = number (take 8 t.state); hi = number (take 8 (drop 8 t.state)) }

-- the transcript after n draws
unfoldable pub drawn_times : ℕ → Transcript → List ℕ → Transcript
drawn_times zero t label = t
drawn_times (suc n) t label = drawn_times n (drawn t label) label

-- the words of the elements of n draws
unfoldable pub drawn_words : ℕ → Transcript → List ℕ → List ℕ
drawn_words zero t label = []
drawn_words (suc n) t label = (element (drawn t label)).lo ∷ (element (drawn t label)).hi ∷ drawn_words n (drawn t label) label

-- ---- the answers of the entries, refusals included

-- the number of the refusal, 0 for none; the transcript, as it was where the call is refused (a new one, where none was given, is 32
-- bytes 0)
pub record TranscriptAnswer : Type 0 where
  pub code : ℕ
  pub transcript : Transcript

-- the same with the element drawn, 0 where the draw is refused
pub record DrawAnswer : Type 0 where
  pub code : ℕ
  pub element : Gf128
  pub transcript : Transcript

-- the element of a draw that is refused
abbrev pub no_element : Gf128
no_element = record { lo = 0; hi = 0 }

-- what a call that was given the transcript t hands back, as such an answer
abbrev pub answer_of : Transcript → Result Transcript Refusal → TranscriptAnswer
answer_of t (Ok u) = record { code = 0; transcript = u }
answer_of t (Err r) = record { code = number_of_refusal r; transcript = t }

-- what a call that was given none hands back
abbrev pub new_answer_of : Result Transcript Refusal → TranscriptAnswer
new_answer_of = answer_of (counter_zero no_digest)

-- what a draw from t hands back
abbrev pub draw_answer_of : Transcript → Result Drawn Refusal → DrawAnswer
draw_answer_of t (Ok d) = record { code = 0; element = d.element; transcript = d.transcript }
draw_answer_of t (Err r) = record { code = number_of_refusal r; element = no_element; transcript = t }

-- the answer of a new transcript: 17 where the lengths don't add up to the public bytes
unfoldable pub new_answer : List ℕ → List ℕ → List ℕ → TranscriptAnswer
new_answer protocol public lens =
    cond (total_length lens == length public) (record { code = 0; transcript = new_transcript protocol (parts lens public) })
    (record { code = 17; transcript = counter_zero no_digest })

-- test 14 is passed: the counter is below 2^32
abbrev counter_fits : Transcript → Bool
counter_fits t = nat_lt t.squeeze_ctr (2 ^ 32)

-- the answer of a call that leads from t to u: 14 where the counter of t is 2^32 or more
unfoldable pub unless_late : Transcript → Transcript → TranscriptAnswer
unless_late t u = cond (counter_fits t) (record { code = 0; transcript = u }) (record { code = 14; transcript = t })

-- the answer of absorbed bytes, a word's or a hash's among them
unfoldable pub absorb_answer : Transcript → List ℕ → List ℕ → TranscriptAnswer
absorb_answer t label bytes = unless_late t (absorbed t label bytes)

-- the answer of absorbed elements: 11 where the words are none, their count being odd; then that of their bytes
unfoldable pub field_answer : Transcript → List ℕ → List ℕ → TranscriptAnswer
field_answer t label words =
    cond (length words % 2 == 0) (absorb_answer t label (word_bytes words)) (record { code = 11; transcript = t })

-- the answer of a draw: 14 where the counter is 2^32 or more
unfoldable pub draw_answer : Transcript → List ℕ → DrawAnswer
draw_answer t label =
    cond (counter_fits t)
    (record { code = 0; element = element (drawn t label); transcript = drawn t label })
    (record { code = 14; element = no_element; transcript = t })

-- the number of n draws into `size` words: 14 where the counter is 2^32 or more, then 15 where n elements have no room
unfoldable pub draws_code : Transcript → ℕ → ℕ → ℕ
draws_code t n size = cond (counter_fits t) (cond (nat_lt size (2 * n)) 15 0) 14

-- the answer of n draws into `size` words
unfoldable pub draws_answer : Transcript → List ℕ → ℕ → ℕ → TranscriptAnswer
draws_answer t label n size =
    record { code = draws_code t n size; transcript = cond (draws_code t n size == 0) (drawn_times n t label) t }

-- the words lent to n draws: the elements' first, the rest as they were; as they were where the draws are refused
unfoldable pub draws_out : Transcript → List ℕ → ℕ → List ℕ → List ℕ
draws_out t label n out =
    cond (draws_code t n (length out) == 0) (drawn_words n t label ++ drop (2 * n) out) out
