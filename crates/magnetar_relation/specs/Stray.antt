-- The first stray bit of a packed batch, as the row check wants it: a bit that is set outside the segments. It is found by whole words, a
-- login's words against a mask of the columns outside.
-- Source: document 02, U3; document 01, "The run" (outside), "Matrices and layout" (unused bits never matter) and "Who can be turned back".
-- Assumes nothing.
use Rattle.std.specs.Prelude.{◌≡◌, Option, Some, None, Result, Ok, Err, Bool, cond, ◌&&◌, List, ◌++◌, ℕ, ◌+◌, ◌-◌, ◌*◌, ◌%◌, ◌≤◌, eqb, ltb, leb}
use Rattle.magnetar_field.specs.declared.refusal.Refusal.{Refusal}
use Rattle.magnetar_field.specs.Number.{number}
use Rattle.magnetar_field.specs.Refusal.{unless_refused}
use Rattle.magnetar_layout.specs.Layout.{outside}
use Rattle.magnetar_layout.specs.Tests.{first_refusal, size_tests, packed_tests, layout_tests}
use Rattle.magnetar_matrix.specs.Batch.{Batch}
use Rattle.magnetar_matrix.specs.Packed.{packed_bit, unpacked}
use Rattle.magnetar_matrix.specs.RowCheck.{stray_column, stray_login}
use Rattle.magnetar_relation.specs.declared.stray.StrayBit.{StrayBit}

-- no stray bit; the login and column of the first one; or the number of a refusal
pub data StrayAnswer : Type 0 where
  clear : StrayAnswer
  bit : ℕ → ℕ → StrayAnswer
  refused : ℕ → StrayAnswer

-- what is found, as the code says it
abbrev pub stray_found : Option StrayBit → StrayAnswer
stray_found None = clear
stray_found (Some b) = bit b.login b.column

-- the outcome that the code's answer is
abbrev pub stray_answer : Result (Option StrayBit) Refusal → StrayAnswer
stray_answer (Ok b) = stray_found b
stray_answer (Err r) = refused (number r)

-- what is found in a batch of q logins with w columns and segments of the lengths ns
unfoldable pub searched : (q w : ℕ) → List ℕ → Batch → StrayAnswer
searched q w ns b =
    cond (eqb (stray_login q w ns b) q) clear (bit (stray_login q w ns b) (stray_column w ns b (stray_login q w ns b)))

-- `first_stray`: 1, 2, and 8 to 10
unfoldable pub stray_refusal : (q w : ℕ) → (ns ws : List ℕ) → ℕ
stray_refusal q w ns ws = first_refusal 0 (size_tests (2 * w) q ++ (packed_tests w q ws ++ layout_tests w ns))

-- what it answers
abbrev pub stray_outcome : (q w : ℕ) → (ns ws : List ℕ) → StrayAnswer
stray_outcome q w ns ws =
    unless_refused (stray_refusal q w ns ws) (searched q w ns (unpacked q w ws)) (refused (stray_refusal q w ns ws))

-- ---- masks; only private contracts cite these definitions
-- the mask's bit at column y: 1 where this is one of w columns, and outside
unfoldable pub outside_bit : (w : ℕ) → List ℕ → ℕ → ℕ
outside_bit w ns y = cond (ltb y w && outside ns y) 1 0

-- the words hold such a mask
abbrev pub Masks : (w : ℕ) → (ns ms : List ℕ) → Type 0
Masks w ns ms = (y : ℕ) → packed_bit ms y ≡ outside_bit w ns y

-- of all w columns
abbrev pub AllMarked : (w : ℕ) → List ℕ → Type 0
AllMarked w ms = (y : ℕ) → packed_bit ms y ≡ cond (ltb y w) 1 0

-- of none past the first w
abbrev pub NonePast : (w : ℕ) → List ℕ → Type 0
NonePast w ms = (y : ℕ) → w ≤ y → packed_bit ms y ≡ 0

-- the bit b at column i, after the n columns from y on are flipped
unfoldable pub flipped_bit : (y n i b : ℕ) → ℕ
flipped_bit y n i b = cond (leb y i && ltb i (y + n)) (1 - b) b

-- the words ms become ls when these columns are flipped
abbrev pub Flipped : (y n : ℕ) → (ms ls : List ℕ) → Type 0
Flipped y n ms ls = (i : ℕ) → packed_bit ls i ≡ flipped_bit y n i (packed_bit ms i)

-- n columns from y on lie in one word, or are whole words
pub data InWords (y n : ℕ) : Type 0 where
  one : y % 64 + n ≤ 64 → InWords y n
  whole : y % 64 ≡ 0 → n % 64 ≡ 0 → InWords y n

-- two rows of words have no bit in common at column y
unfoldable pub apart : (ms ws : List ℕ) → ℕ → Bool
apart ms ws y = eqb (packed_bit ms y * packed_bit ws y) 0
