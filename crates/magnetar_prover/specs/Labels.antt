-- The labels of a system's row rounds and of its tau, as in the Rust.
-- Source: the Rust's `verify_virtual_spartan`.
-- Assumes nothing.
use Rattle.std.specs.Prelude.{List, ◌++◌, ℕ, ◌≤◌, length}
use Prim.Native.String.{String}
use Rattle.magnetar_schedule.specs.Schedule.{decimal}
use Rattle.magnetar_prover.specs.declared.events.Label.{Label}
use Rattle.magnetar_prover.specs.declared.events.Label.TheVariants.{Whole, Numbered}
use Rattle.magnetar_prover.specs.declared.events.System.{System}
use Rattle.magnetar_prover.specs.declared.events.System.TheVariants.{Bin, Fld}

-- the label of the row rounds of bin, or else of fld
abbrev pub row_label : System → String
row_label Bin = "vs-out-rowbin-"
row_label Fld = "vs-out-rowfld-"

-- the label of the tau of bin, or else of fld
abbrev pub tau_label : System → String
tau_label Bin = "vs-tau-bin"
tau_label Fld = "vs-tau-fld"

-- the bytes of the label of event i
abbrev pub label_bytes : Label → ℕ → List ℕ
label_bytes (Whole bytes) i = bytes.now
label_bytes (Numbered prefix) i = prefix.now ++ decimal 20 i

-- there is room in front of the number
abbrev pub IsShort : Label → Type 0
IsShort (Whole bytes) = Unit
IsShort (Numbered prefix) = length prefix.now ≤ 28
