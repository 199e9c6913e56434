-- What is done with the transcript of a query: OP STATE CTR LABEL, and then what is absorbed, or how many elements are drawn into how many
-- words.
-- Source: the form of the recorded answers (docs/VECTORS.md).
-- Assumes nothing.
use Rattle.std.specs.Prelude.{ℕ, cond, List, [], Option, Some, None, Result, Ok, Err, codes, decimal, min, slice_index, ◌==◌, bytes_eq}
use Rattle.magnetar_field.specs.declared.gf128.Gf128.{Gf128}
use Rattle.magnetar_field.specs.declared.refusal.Refusal.{Refusal}
use Rattle.magnetar_field.specs.Gf128.{value}
use Rattle.magnetar_field.specs.Number.{number_of}
use Rattle.magnetar_field.specs.Refusal.{unless_refused}
use Rattle.magnetar_hash.specs.declared.transcript.Transcript.{Transcript}
use Rattle.magnetar_hash.specs.Bytes.{le_bytes}
use Rattle.magnetar_hash.specs.Transcript.{TranscriptAnswer, DrawAnswer, absorb_answer, field_answer, draw_answer, draws_answer, draws_out}
use Rattle.magnetar_replay.specs.Words.{first_32}
use Rattle.magnetar_replay.specs.Lists.{list_behind, marked_words}
use Rattle.magnetar_replay.specs.Strings.{string_at}
use Rattle.magnetar_replay.specs.Text.{words_text, element_text, state_text, spaced, told_line, turned_back_line}
use Rattle.magnetar_replay.specs.declared.step.Step.{Step}
use Rattle.magnetar_replay.specs.declared.step.Step.TheVariants.{Bytes, Number, Digest, Elements, Draw, Draws}
use Rattle.magnetar_replay.specs.declared.step.Told.{Told}

-- a step
pub data Meant : Type 0 where
  absorbs : List ℕ → Meant
  absorbs_number : ℕ → Meant
  absorbs_digest : List ℕ → Meant
  absorbs_elements : List ℕ → Meant
  draws_one : Meant
  -- so many elements, into so many words
  draws_many : (n lent : ℕ) → Meant

-- what a step of the code means
abbrev pub meant : Step → Meant
meant (Bytes bytes) = absorbs bytes.now
meant (Number v) = absorbs_number v
meant (Digest d) = absorbs_digest d
meant (Elements words) = absorbs_elements words.now
meant Draw = draws_one
meant (Draws n lent) = draws_many n lent

-- the step that a query of this name asks for, with these numbers and byte strings
unfoldable pub step_named : (name nums bytes lens : List ℕ) → Option Meant
step_named name nums bytes lens =
    let data_bytes = string_at bytes lens 3 in
    cond (bytes_eq name (codes "absorb")) (Some (absorbs data_bytes))
    (cond (bytes_eq name (codes "absorbu64")) (Some (absorbs_number (slice_index nums 3)))
    (cond (bytes_eq name (codes "absorbdigest")) (Some (absorbs_digest (first_32 data_bytes)))
    (cond (bytes_eq name (codes "absorbfield")) (Some (absorbs_elements (list_behind nums 3 0)))
    (cond (bytes_eq name (codes "draw")) (Some draws_one)
    (cond (bytes_eq name (codes "drawvec")) (Some (draws_many (slice_index nums 3) (slice_index nums 4)))
    None)))))

-- how many words are lent for it: as many as asked for, but at most 4096, and none but for several draws
abbrev pub lent_for : Meant → ℕ
lent_for (draws_many n lent) = min lent 4096
lent_for _ = 0

-- what a step leaves: the number of the refusal, 0 for none; the element drawn where one is; the transcript; the words lent
pub record Left : Type 0 where
  pub code : ℕ
  pub drawn : Option Gf128
  pub transcript : Transcript
  pub words : List ℕ

abbrev drawn_in : Result (Option Gf128) Refusal → Option Gf128
drawn_in (Ok e) = e
drawn_in (Err r) = None

-- what the code tells, as such
abbrev pub left_of : Told → Left
left_of told = record {
  code = number_of told.answer;
  drawn = drawn_in told.answer;
  transcript = told.transcript;
  words = told.words.items;
}

-- a call that draws no element, or several
abbrev pub left_by : TranscriptAnswer → List ℕ → Left
left_by a words = record { code = a.code; drawn = None; transcript = a.transcript; words = words }

-- a call that draws one
abbrev pub left_drawn : DrawAnswer → List ℕ → Left
left_drawn a words = record { code = a.code; drawn = cond (a.code == 0) (Some a.element) None; transcript = a.transcript; words = words }

-- what a step leaves of the transcript t under a label, the words lent being marked before it
unfoldable pub step_left : Meant → Transcript → (label : List ℕ) → Left
step_left (absorbs bytes) t label = left_by (absorb_answer t label bytes) []
step_left (absorbs_number v) t label = left_by (absorb_answer t label (le_bytes 8 v)) []
step_left (absorbs_digest d) t label = left_by (absorb_answer t label d) []
step_left (absorbs_elements words) t label = left_by (field_answer t label words) []
step_left draws_one t label = left_drawn (draw_answer t label) []
step_left (draws_many n lent) t label =
    let size = min lent 4096 in
    left_by (draws_answer t label n size) (draws_out t label n (marked_words size))

-- ---- what is written
-- the element drawn, where one is, and a text behind it
abbrev element_before : Option Gf128 → List ℕ → List ℕ
element_before None text = text
element_before (Some e) text = spaced (element_text (value e)) text

-- the line of what a step left: the words, the number and the transcript where several elements were to be drawn, else the element where one is
-- drawn and the transcript, or the number of the refusal and the transcript
abbrev pub step_line : Meant → Left → List ℕ
step_line (draws_many n lent) left = told_line (spaced (words_text left.words) (spaced (decimal left.code) (state_text left.transcript)))
step_line _ left = unless_refused left.code (told_line (element_before left.drawn (state_text left.transcript)))
    (turned_back_line (spaced (decimal left.code) (state_text left.transcript)))
