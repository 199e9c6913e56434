-- Aligned segments of a vector that is zero outside them.
-- Source: document 01, "Matrices and layout" (segments) and "The run" (outside).
-- Assumes nothing.
use Rattle.std.specs.Prelude.{List, [], ◌∷◌, ℕ, ◌+◌, ◌-◌, ◌*◌, ◌^◌, ◌≤◌, take, drop}
use Rattle.magnetar_theory.specs.Field.{Field}
use Rattle.magnetar_theory.specs.Tau.{Zeros}

-- a segment of 2 ^ logLen entries that starts at number * 2 ^ logLen
pub record Segment : Type 0 where
  pub log_len : ℕ
  pub number : ℕ

-- where a segment starts
abbrev pub offset : Segment → ℕ
offset g = g.number * 2 ^ g.log_len

-- where it ends
abbrev pub after : Segment → ℕ
after g = offset g + 2 ^ g.log_len

module _ (F : Field) where
  open F use {K, 𝟎, 𝟏, ◌⊕◌, ◌⊗◌}

  infixl 60 ◌⊕◌
  infixl 70 ◌⊗◌
  -- the segments stand in order from c on, below n; outside them w is zero
  abbrev pub ZeroOutside : ℕ → ℕ → List Segment → List K → Type 0
  ZeroOutside c n [] w = Zeros F (drop c w)
  ZeroOutside c n (g ∷ gs) w = (c ≤ offset g) × (after g ≤ n) × Zeros F (take (offset g - c) (drop c w)) × ZeroOutside (after g) n gs w

  -- the entries of a segment
  abbrev pub segment_part : Segment → List K → List K
  segment_part g w = take (2 ^ g.log_len) (drop (offset g) w)
