-- What is written of an answer: numbers, words, bytes, elements and transcripts, and the lines that hold them.
-- Source: the form of the recorded answers (docs/VECTORS.md).
-- Assumes nothing.
use Rattle.std.specs.Prelude.{ℕ, ◌/◌, ◌%◌, Bool, false, cond, List, [], ◌∷◌, ◌++◌, length, drop, flat_map, codes, decimal, Option, Some}
use Rattle.std.specs.Prelude.{option_map, Result, Ok, Err}
use Rattle.std.specs.List.{prefix_len}
use Rattle.std.specs.Fmt.{digits, digit_glyph}
use Rattle.magnetar_field.specs.declared.refusal.Refusal.{Refusal}
use Rattle.magnetar_field.specs.Number.{number}
use Rattle.magnetar_field.specs.Words.{words}
use Rattle.magnetar_hash.specs.declared.transcript.Transcript.{Transcript}
use Rattle.magnetar_replay.specs.Words.{is_zero}
use Rattle.magnetar_replay.specs.Lists.{is_marked}

-- ---- values
-- words in hexadecimal, each behind a space
abbrev pub hex_words : List ℕ → List ℕ
hex_words ws = flat_map (λ w. codes " 0x" ++ digits 16 false w) ws

-- how many words there are, and each of them
abbrev pub words_text : List ℕ → List ℕ
words_text ws = decimal (length ws) ++ hex_words ws

-- the two digits of a byte, and those of bytes
abbrev pub byte_digits : ℕ → List ℕ
byte_digits b = digit_glyph false (b / 16) ∷ (digit_glyph false (b % 16) ∷ [])

abbrev pub bytes_text : List ℕ → List ℕ
bytes_text bytes = flat_map byte_digits bytes

-- an element as its two words
abbrev pub element_text : ℕ → List ℕ
element_text v = words_text (words (v ∷ []))

-- a flag
abbrev pub flag_text : Bool → List ℕ
flag_text b = cond b (codes "true") (codes "false")

-- two texts with a space between them
abbrev pub spaced : List ℕ → List ℕ → List ℕ
spaced a b = a ++ (codes " " ++ b)

-- a transcript as its state and its counter
abbrev pub state_text : Transcript → List ℕ
state_text t = spaced (bytes_text t.state) (decimal t.squeeze_ctr)

-- how many words there are, how many of them are zero at the front, and how many after these are still marked
abbrev pub cleared_text : List ℕ → List ℕ
cleared_text ws =
    let zeros = prefix_len is_zero ws in
    let marked = prefix_len is_marked (drop zeros ws) in
    spaced (decimal (length ws)) (spaced (decimal zeros) (decimal marked))

-- ---- lines
-- a text and the end of its line
abbrev pub line_of : List ℕ → List ℕ
line_of text = text ++ (10 ∷ [])

-- a line that tells an answer, and one that turns back
abbrev pub told_line : List ℕ → List ℕ
told_line text = line_of (codes "= " ++ text)

abbrev pub turned_back_line : List ℕ → List ℕ
turned_back_line text = line_of (codes "! " ++ text)

-- a refusal's number, words, and the number of an answer with the lent words after it
abbrev pub refused_line : ℕ → List ℕ
refused_line n = turned_back_line (decimal n)

abbrev pub listed_line : List ℕ → List ℕ
listed_line ws = told_line (words_text ws)

abbrev pub written_line : ℕ → List ℕ → List ℕ
written_line n ws = told_line (spaced (decimal n) (words_text ws))

-- what a call answered, or the number of its refusal; nothing is said where nothing is known of the answer's text
abbrev pub call_line : {A : Type 0} → (A → Option (List ℕ)) → Result A Refusal → Option (List ℕ)
call_line text (Ok a) = option_map told_line (text a)
call_line text (Err r) = Some (refused_line (number r))
