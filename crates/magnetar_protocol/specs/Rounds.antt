-- The rounds of a run by its sizes.
-- Source: document 01, "Forms that give way" (s, b, f, L).
-- Assumes nothing.
use Rattle.std.specs.Prelude.{ℕ, ◌<◌}
use Rattle.magnetar_field.specs.Sizes.{log₂}
use Rattle.magnetar_protocol.specs.declared.rounds.Rounds.{Rounds}

-- q logins, m columns, b rows of bin and f rows of fld
abbrev pub rounds_of : (m q b f : ℕ) → Rounds
rounds_of m q b f = record { shared = log₂ q; bin = log₂ b; fld = log₂ f; inner = log₂ m }

-- each of them is the logarithm of a number of 64 bits
pub record Few (r : Rounds) : Type 0 where
  pub shared : r.shared < 64
  pub bin : r.bin < 64
  pub fld : r.fld < 64
  pub inner : r.inner < 64
