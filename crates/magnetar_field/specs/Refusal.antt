-- Which refusal applies, and what a refused call leaves.
-- Source: document 01, "Who can be turned back" (the checks run in rising number) and "Note from the buyer" (refused calls).
-- Assumes nothing.
use Rattle.std.specs.Prelude.{ℕ, Bool, cond, ◌==◌}

-- the number n where the input is bad; otherwise what the later checks say. 0 is no refusal
abbrev pub refuse : ℕ → Bool → ℕ → ℕ
refuse n bad later = cond bad n later

-- what is new where nothing is refused, and what was there before where something is
abbrev pub unless_refused : {A : Type 0} → ℕ → A → A → A
unless_refused n new old = cond (n == 0) new old
