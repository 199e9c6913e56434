-- Numbers as bytes, the lowest first, and texts as bytes.
-- Source: document 01, "Hash and transcript" (little-endian bytes).
-- Assumes nothing.
use Rattle.std.specs.Prelude.{ℕ, zero, suc, ◌+◌, ◌*◌, ◌/◌, ◌%◌, List, [], ◌∷◌, ◌++◌}
use Prim.Native.Char.{code}
use Prim.Native.String.{String, [] as text-end, ◌∷◌ as ◌then◌}

-- the n lowest bytes of a number, the lowest first
unfoldable pub le_bytes : ℕ → ℕ → List ℕ
le_bytes zero x = []
le_bytes (suc n) x = x % 256 ∷ le_bytes n (x / 256)

-- the number that bytes make, the first the lowest
unfoldable pub number : List ℕ → ℕ
number [] = 0
number (b ∷ bs) = b + 256 * number bs

-- the bytes of words of 64 bits, word after word
unfoldable pub word_bytes : List ℕ → List ℕ
word_bytes [] = []
word_bytes (w ∷ ws) = le_bytes 8 w ++ word_bytes ws

-- the bytes of an ASCII text
unfoldable pub ascii : String → List ℕ
ascii text-end = []
ascii (c then s) = code c ∷ ascii s
