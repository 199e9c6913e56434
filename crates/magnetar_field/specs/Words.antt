-- Words of 64 bits that hold elements: word 2i is the low half of element i, and word 2i + 1 its high half.
-- Source: document 01, "Forms that give way" (u128 becomes two u64 words, low first).
-- Assumes nothing.
use Rattle.std.specs.Prelude.{ℕ, ◌+◌, ◌*◌, ◌/◌, ◌%◌, ◌^◌, cond, List, [], ◌∷◌, ◌++◌, length, take, drop, nat_lt, slice_set}

-- the elements that words hold; an odd word at the end belongs to none
unfoldable pub elements : List ℕ → List ℕ
elements [] = []
elements (w ∷ []) = []
elements (lo ∷ (hi ∷ ws)) = (hi * 2 ^ 64 + lo) ∷ elements ws

-- the words of elements
unfoldable pub words : List ℕ → List ℕ
words [] = []
words (v ∷ vs) = (v % 2 ^ 64) ∷ ((v / 2 ^ 64) ∷ words vs)

-- the words with the element v at index i, or unchanged where they hold no element i
unfoldable pub stored : List ℕ → ℕ → ℕ → List ℕ
stored s i v = cond (nat_lt i (length s / 2)) (slice_set (slice_set s (2 * i) (v % 2 ^ 64)) (2 * i + 1) (v / 2 ^ 64)) s

-- the words of d with those of s over them, as many as both have
unfoldable pub overlaid : List ℕ → List ℕ → List ℕ
overlaid s d = take (length d) s ++ drop (length s) d
