-- Byte strings, one behind the other, and how long each is.
-- Source: the form of the recorded answers (docs/VECTORS.md).
-- Assumes nothing.
use Rattle.std.specs.Prelude.{ℕ, ◌+◌, ◌-◌, ◌&&◌, cond, List, [], take, drop, length, nat_le, sum, slice_index}
use Rattle.magnetar_hash.specs.declared.transcript.Transcript.{Transcript}
use Rattle.magnetar_replay.specs.Words.{first_32}

-- what lies from place a on, before place b; nothing where b is before a or past the end
abbrev pub part_of : List ℕ → (a b : ℕ) → List ℕ
part_of xs a b = cond (nat_le a b && nat_le b (length xs)) (take (b - a) (drop a xs)) []

-- where string k begins
abbrev pub start_of : List ℕ → ℕ → ℕ
start_of lens k = sum (take k lens)

-- the bytes of the strings from i on, before string k
abbrev pub strings_between : (bytes lens : List ℕ) → (i k : ℕ) → List ℕ
strings_between bytes lens i k = part_of bytes (start_of lens i) (start_of lens k)

-- the bytes of string i
abbrev pub string_at : (bytes lens : List ℕ) → ℕ → List ℕ
string_at bytes lens i = strings_between bytes lens i (i + 1)

-- the transcript of a query: its state is the first string, and its counter the number behind it
abbrev pub query_transcript : (bytes lens nums : List ℕ) → Transcript
query_transcript bytes lens nums = record { state = first_32 (string_at bytes lens 0); squeeze_ctr = slice_index nums 1 }
