-- The layout of the segments over the witness columns: each segment starts at the next multiple of its length.
-- Source: document 01, "Matrices and layout" (segments) and "The run" (outside); the Rust's `SegmentLayout`.
-- Assumes nothing.
use Rattle.std.specs.Prelude.{◌≡◌, Bool, true, false, not, ◌||◌, ◌&&◌, List, [], ◌∷◌, ℕ, ◌+◌, ◌-◌, ◌*◌, ◌/◌, ◌^◌, ◌≤◌, ◌<◌, ltb, leb, length, get_or}
use Rattle.magnetar_field.specs.Sizes.{log₂, power_of_two}
use Rattle.magnetar_layout.specs.Every.{every}
use Rattle.magnetar_layout.specs.Limits.{most_witness}

-- the least multiple of n that is not below c
unfoldable pub next_multiple : ℕ → ℕ → ℕ
next_multiple c n = (c + (n - 1)) / n * n

-- the offsets of segments of the given lengths, the first at c or later
unfoldable pub offsets_from : ℕ → List ℕ → List ℕ
offsets_from c [] = []
offsets_from c (n ∷ ns) = next_multiple c n ∷ offsets_from (next_multiple c n + n) ns

-- where such segments end
unfoldable pub end_from : ℕ → List ℕ → ℕ
end_from c [] = c
end_from c (n ∷ ns) = end_from (next_multiple c n + n) ns

-- the offsets of the segments, the first at 0
unfoldable pub offsets : List ℕ → List ℕ
offsets ns = offsets_from 0 ns

-- where the last segment ends
unfoldable pub layout_end : List ℕ → ℕ
layout_end ns = end_from 0 ns

-- a segment of w columns may have the length n: not zero, a power of two, and at most w
unfoldable pub is_length : ℕ → ℕ → Bool
is_length w n = ltb 0 n && (leb n w && power_of_two n)

-- the lengths of a layout in w columns, as the checks leave them
pub record LayoutFits (w : ℕ) (ns : List ℕ) : Type 0 where
  pub small : w ≤ most_witness
  pub power : w ≡ 2 ^ log₂ w
  pub lengths : every (is_length w) ns ≡ true
  pub ends : layout_end ns ≤ w

-- ---- the readings of segment i
-- the column where it starts
abbrev pub offset : List ℕ → ℕ → ℕ
offset ns i = get_or (offsets ns) i 0

-- how many variables number the positions within it
abbrev pub local_vars : List ℕ → ℕ → ℕ
local_vars ns i = log₂ (get_or ns i 0)

-- how many variables are left to number the places for it among w columns
abbrev pub suffix_bits : ℕ → List ℕ → ℕ → ℕ
suffix_bits w ns i = log₂ w - local_vars ns i

-- the number of its place, the Rust's `b_i`: the offset divided by the length
abbrev pub suffix : List ℕ → ℕ → ℕ
suffix ns i = offset ns i / get_or ns i 0

-- ---- columns
-- the column y lies in one of the segments with these offsets and lengths
unfoldable pub within : List ℕ → List ℕ → ℕ → Bool
within [] ns y = false
within (o ∷ os) [] y = false
within (o ∷ os) (n ∷ ns) y = (leb o y && ltb y (o + n)) || within os ns y

-- the column y lies in no segment: what document 01 calls outside
unfoldable pub outside : List ℕ → ℕ → Bool
outside ns y = not (within (offsets ns) ns y)

-- the column y lies in segment i
abbrev pub Covers : List ℕ → ℕ → ℕ → Type 0
Covers ns i y = (offset ns i ≤ y) × (y < offset ns i + get_or ns i 0)

-- what outside means: y is outside exactly where no segment covers it
pub record OutsideMeans (ns : List ℕ) (y : ℕ) : Type 0 where
  pub uncovered : outside ns y ≡ true → (i : ℕ) → i < length ns → Covers ns i y → ⊥
  pub is-outside : ((i : ℕ) → i < length ns → Covers ns i y → ⊥) → outside ns y ≡ true
