-- Lists among numbers: each is a count, and as many numbers behind it, or as many as there are.
-- Source: the form of the recorded answers (docs/VECTORS.md).
-- Assumes nothing.
use Rattle.std.specs.Prelude.{ℕ, zero, suc, Bool, cond, List, [], ◌∷◌, length, take, drop, replicate, nat_lt, ◌==◌}

-- the list in front
abbrev pub front_list : List ℕ → List ℕ
front_list [] = []
front_list (count ∷ nums) = take count nums

-- what is behind it
abbrev pub behind_list : List ℕ → List ℕ
behind_list [] = []
behind_list (count ∷ nums) = drop count nums

-- list number k
unfoldable pub list_at : List ℕ → ℕ → List ℕ
list_at nums zero = front_list nums
list_at nums (suc k) = list_at (behind_list nums) k

-- list number k of those from index i on
abbrev pub list_behind : List ℕ → ℕ → ℕ → List ℕ
list_behind nums i k = list_at (drop i nums) k

-- numbers, or none where there are more than `most`
abbrev pub at_most : List ℕ → ℕ → List ℕ
at_most nums most = cond (nat_lt most (length nums)) [] nums

-- what stands in a lent word before a call
abbrev pub mark : ℕ
mark = 0x5a5a5a5a5a5a5a5a

-- a word that still holds it
abbrev pub is_marked : ℕ → Bool
is_marked w = w == mark

-- n such words
abbrev pub marked_words : ℕ → List ℕ
marked_words n = replicate n mark
