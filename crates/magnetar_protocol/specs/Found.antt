-- What a list of checks finds: the first one that does not pass.
-- Source: document 01, "Who can be turned back" (21 to 29, in the Rust's order).
-- Assumes nothing.
use Rattle.std.specs.Prelude.{Bool, cond, List, [], ◌∷◌, ℕ, eqb, Result, Ok, Err}
use Rattle.magnetar_field.specs.Number.{number}
use Rattle.magnetar_field.specs.Refusal.{unless_refused}
use Rattle.magnetar_protocol.specs.Checks.{Check, first_failure, first_stop}
use Rattle.magnetar_protocol.specs.declared.first.Failure.{Failure}

-- the first check that does not pass: its refusal (0: none), and how many events of the schedule come before it
pub record Found : Type 0 where
  pub code : ℕ
  pub events : ℕ

-- a check
abbrev pub check : ℕ → Bool → ℕ → Check
check n p e = record { refusal = n; passes = p; events = e }

-- nothing found
abbrev pub nothing : Found
nothing = record { code = 0; events = 0 }

-- a check's failure
abbrev pub failed : Failure → Found
failed f = record { code = number f.check; events = f.events }

-- what an answer of the code has found
abbrev pub found : {A : Type 0} → Result A Failure → Found
found (Ok a) = nothing
found (Err f) = failed f

-- what is found with one more check: an earlier refusal stays
unfoldable pub next_found : Found → Check → Found
next_found f c = cond (eqb f.code 0) (cond c.passes f (record { code = c.refusal; events = c.events })) f

-- and with a list of checks
unfoldable pub after : Found → List Check → Found
after f [] = f
after f (c ∷ cs) = after (next_found f c) cs

-- the refusal of the first check that does not pass (0: none), and how many events of the schedule come before it
unfoldable pub first_found : List Check → Found
first_found cs = record { code = first_failure cs; events = first_stop cs 0 }

-- what is found, unless n refuses the call before any event
abbrev pub unless_bad : ℕ → Found → Found
unless_bad n f = unless_refused n f (record { code = n; events = 0 })
