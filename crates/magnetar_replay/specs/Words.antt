-- A line: words between spaces. The first names a query, and those behind it spell numbers or byte strings.
-- Source: the form of the recorded answers (docs/VECTORS.md).
-- Assumes nothing.
use Rattle.std.specs.Prelude.{ℕ, ◌+◌, ◌-◌, ◌*◌, ◌/◌, ◌%◌, ◌^◌, Bool, ◌&&◌, cond, List, [], ◌∷◌, map, length, drop, fold, codes, slice_index}
use Rattle.std.specs.Prelude.{slice_index_or, nat_le, ◌==◌, bytes_eq, flat_map}
use Rattle.std.specs.List.{slice_split, prefix_len}
use Rattle.magnetar_field.specs.Tabulate.{tabulate}

-- ---- words
-- a space
abbrev pub is_space : ℕ → Bool
is_space c = c == 32

-- the words of a line, which its spaces part; two spaces in a row part off an empty one
abbrev pub line_words : List ℕ → List (List ℕ)
line_words line = slice_split is_space line

-- the first of them
abbrev pub first_word : List ℕ → List ℕ
first_word line = slice_index_or (line_words line) 0 []

-- those behind it
abbrev pub later_words : List ℕ → List (List ℕ)
later_words line = drop 1 (line_words line)

-- ---- the name
-- zero, as a byte or as a word
abbrev pub is_zero : ℕ → Bool
is_zero c = c == 0

-- how many zeros are in front of a word
abbrev pub zeros_in_front : List ℕ → ℕ
zeros_in_front word = prefix_len is_zero word

-- the last eight letters of a word, without zeros in front
abbrev pub last_letters : List ℕ → List ℕ
last_letters word = let last = drop (length word - 8) word in drop (zeros_in_front last) last

-- the first of some names that has these last letters, or the letters themselves where none has
abbrev pub named_among : List (List ℕ) → List ℕ → List ℕ
named_among [] letters = letters
named_among (long ∷ longs) letters = cond (bytes_eq (last_letters long) letters) long (named_among longs letters)

-- the names of more than eight letters
abbrev pub long_names : List (List ℕ)
long_names =
    codes "absorbdigest" ∷ codes "absorbfield" ∷ codes "absorbu64" ∷ codes "absorbwords" ∷ codes "partslens" ∷ codes "rawdrawvec" ∷ []

-- the name of a line's query: the last eight letters of its first word tell it
unfoldable pub query_name : List ℕ → List ℕ
query_name line = named_among long_names (last_letters (first_word line))

-- ---- numbers
-- what a digit stands for, in either base: 0 to 9, and a to f; 0 where it is none
unfoldable pub digit_value : ℕ → ℕ
digit_value c = cond (nat_le 48 c && nat_le c 57) (c - 48) (cond (nat_le 97 c && nat_le c 102) (c - 87) 0)

-- the number v with one more letter: an x starts anew, and any other letter is a digit
abbrev pub with_letter : (base v c : ℕ) → ℕ
with_letter base v c = cond (c == 120) 0 ((v * base + digit_value c) % 2 ^ 64)

-- the second letter of a word is x
abbrev pub is_hex : List ℕ → Bool
is_hex word = slice_index word 1 == 120

-- 16 where it is, else 10
abbrev pub base_of : List ℕ → ℕ
base_of word = cond (is_hex word) 16 10

-- the number that a word spells, modulo 2^64
unfoldable pub spelled_number : List ℕ → ℕ
spelled_number word = fold (with_letter (base_of word)) 0 word

-- the numbers of a line
abbrev pub line_numbers : List ℕ → List ℕ
line_numbers line = map spelled_number (later_words line)

-- ---- byte strings
-- the byte that two letters spell
abbrev pub byte_value : (high low : ℕ) → ℕ
byte_value high low = digit_value high * 16 + digit_value low

-- the bytes that a word spells, two letters each; a letter that is left over spells none
unfoldable pub spelled_bytes : List ℕ → List ℕ
spelled_bytes [] = []
spelled_bytes (high ∷ []) = []
spelled_bytes (high ∷ (low ∷ letters)) = byte_value high low ∷ spelled_bytes letters

-- the bytes of all strings of a line, one behind the other, and how many each has
abbrev pub line_bytes : List ℕ → List ℕ
line_bytes line = flat_map spelled_bytes (later_words line)

abbrev pub line_lens : List ℕ → List ℕ
line_lens line = map (λ word. length word / 2) (later_words line)

-- the 32 bytes that the letters behind the first word and one space spell, whatever they are; a letter that is not there counts as 0
abbrev pub line_hash : List ℕ → List ℕ
line_hash line =
    let letters = drop 1 (drop (length (first_word line)) line) in
    tabulate (λ i. byte_value (slice_index letters (2 * i)) (slice_index letters (2 * i + 1))) 32

-- the first 32 bytes, 0 where there are fewer
abbrev pub first_32 : List ℕ → List ℕ
first_32 bytes = tabulate (slice_index bytes) 32
