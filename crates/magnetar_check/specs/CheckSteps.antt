-- How the row check goes, call by call. Only private contracts cite these definitions.
-- Source: document 01, "Matrices and layout" (added: a plain row check), login by login.
-- Assumes nothing.
use Rattle.std.specs.Prelude.{Option, Some, None, ℕ, zero, suc, ◌*◌, min, max, cond, List, length, take, ◌==◌, nat_le, nat_lt}
use Rattle.magnetar_field.specs.Words.{elements}
use Rattle.magnetar_layout.specs.Tests.{most_rows}
use Rattle.magnetar_matrix.specs.Matrix.{Matrix, System, Entry, share}
use Rattle.magnetar_matrix.specs.Batch.{Relation}
use Rattle.magnetar_matrix.specs.RowCheck.{first_not, holds_at}
use Rattle.magnetar_matrix.specs.RowCheck.Verdict.{good, stray, bin, fld}
use Rattle.magnetar_relation.specs.Steps.{login_z, cleared_to, added_to, behind}
use Rattle.magnetar_relation.specs.EntryWalks.{fold_entries}
use Rattle.magnetar_relation.specs.Stray.{StrayAnswer}
use Rattle.magnetar_relation.specs.Stray.StrayAnswer.{clear, bit, refused as unsearched}
use Rattle.magnetar_check.specs.declared.check.Failing.{Failing}
use Rattle.magnetar_check.specs.Check.{Outcome}
use Rattle.magnetar_check.specs.Check.Outcome.{judged, refused}

-- the entry's share of the product with z added at its row, to the n elements behind the first m
unfoldable pub share_added : (m n : ℕ) → List ℕ → Entry → List ℕ → List ℕ
share_added m n z e s = behind m (added_to n e.row (share z e)) s

-- the product of the matrix with z in the n elements behind the first m
abbrev pub product_behind : (m n : ℕ) → List ℕ → Matrix → List ℕ → List ℕ
product_behind m n z a s = fold_entries (share_added m n z) a.entries (behind m (cleared_to n) s)

-- twice n; larger numbers than a matrix has rows are cut
abbrev pub twice_of : ℕ → ℕ
twice_of n = 2 * min n most_rows

-- the three products of a system, one behind the other
unfoldable pub three_in : List ℕ → System → List ℕ → List ℕ
three_in z t s =
    product_behind (twice_of t.a.rows) t.a.rows z t.c (product_behind t.a.rows t.a.rows z t.b (product_behind 0 t.a.rows z t.a s))

-- the first of n rows that does not hold, or n; n where there is no room for three products
unfoldable pub row_in : ℕ → List ℕ → ℕ
row_in n s = cond (nat_le (6 * n) (length s)) (first_not (holds_at (elements (take (6 * n) s)) n) n) n

-- what was found first: 1 a row of bin that does not hold, 2 a row of fld, 3 a stray bit, 0 nothing; the login, and the row or column
pub record Found : Type 0 where
  pub kind : ℕ
  pub login : ℕ
  pub place : ℕ

-- nothing was found
abbrev pub nothing : Found
nothing = record { kind = 0; login = 0; place = 0 }

-- what a search for a stray bit found
abbrev pub stray_found : StrayAnswer → Found
stray_found clear = nothing
stray_found (bit u y) = record { kind = 3; login = u; place = y }
stray_found (unsearched n) = nothing

-- the first row of system k that does not hold for login u, or r
unfoldable pub failing_in : Found → (k u n : ℕ) → List ℕ → Found
failing_in r k u n s = cond (nat_lt (row_in n s) n) (record { kind = k; login = u; place = row_in n s }) r

-- a row of system k that the code found, or none
abbrev pub found_in : ℕ → Option Failing → Found
found_in k None = nothing
found_in k (Some f) = record { kind = k; login = f.login; place = f.row }

-- ---- the walk over the logins
-- what was found, and the words
pub record Judged : Type 0 where
  pub found : Found
  pub left : List ℕ

-- such a state of the walk
abbrev pub from : Found → List ℕ → Judged
from r s = record { found = r; left = s }

-- after login u, with z, of system k; as it was where something was found before
unfoldable pub login_done : (k : ℕ) → (z : List ℕ) → System → ℕ → Judged → Judged
login_done k z t u p =
    cond (p.found.kind == 0) (from (failing_in p.found k u t.a.rows (three_in z t p.left)) (three_in z t p.left)) p

-- after u logins of it
unfoldable pub system_done : (k w : ℕ) → (ws x : List ℕ) → System → ℕ → Judged → Judged
system_done k w ws x t zero p = p
system_done k w ws x t (suc u) p = login_done k (login_z w ws x u) t u (system_done k w ws x t u p)

-- after the logins of both systems, with w witness columns, where r was found before
abbrev pub both_done : Relation → (w : ℕ) → (ws x : List ℕ) → Found → List ℕ → Judged
both_done R w ws x r s = system_done 2 w ws x R.fld R.q (system_done 1 w ws x R.bin R.q (from r s))

-- the words: zeros in the place of the products
abbrev pub both_words : Relation → (w : ℕ) → (ws x : List ℕ) → Found → List ℕ → List ℕ
both_words R w ws x r s = cleared_to (3 * max R.bin.a.rows R.fld.a.rows) (both_done R w ws x r s).left

-- the answer: a refusal, or what was found
unfoldable pub answer_of : ℕ → Found → Outcome
answer_of n r =
    cond (n == 0)
    (judged (cond (r.kind == 0) good
    (cond (r.kind == 1) (bin r.login r.place) (cond (r.kind == 2) (fld r.login r.place) (stray r.login r.place)))))
    (refused n)
