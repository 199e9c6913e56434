-- What an entrance that draws in place hands back.
-- Source: document 01, "Forms that give way" (thin entrances that change the transcript in place).
-- Assumes nothing.
use Rattle.std.specs.Prelude.{ℕ, Result, Ok, Err}
use Rattle.magnetar_field.specs.declared.gf128.Gf128.{Gf128}
use Rattle.magnetar_field.specs.declared.refusal.Refusal.{Refusal}
use Rattle.magnetar_field.specs.Number.{number}
use Rattle.magnetar_hash.specs.Transcript.{DrawAnswer, no_element}

-- the number of the refusal, 0 for none, and the element, 0 where the draw is refused
pub record Drawn : Type 0 where
  pub code : ℕ
  pub element : Gf128

-- a draw's number and element
abbrev pub drawn_of : DrawAnswer → Drawn
drawn_of d = record { code = d.code; element = d.element }

-- what a draw in place hands back, as such a number and element
abbrev pub drawn_answer_of : Result Gf128 Refusal → Drawn
drawn_answer_of (Ok x) = record { code = 0; element = x }
drawn_answer_of (Err r) = record { code = number r; element = no_element }
