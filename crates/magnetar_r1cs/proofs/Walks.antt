-- A turn of a loop over the entries, which reads entry i, and the loop's end.
-- Assumes nothing.
use mathlib.Core.Path.{◌≡◌}
use mathlib.Core.Bool.{Bool, true, false}
use mathlib.Core.List.{List, ◌∷◌}
use Prim.Native.Nat.{ℕ, ◌+◌, ◌≤◌, ◌<◌}
use lib.ListN.{length, get_or, drop, drop_of_length-le}
use Rattle.magnetar_field.specs.Gf128.{◌⊕◌}
use Rattle.magnetar_layout.specs.Every.{every}
use Rattle.magnetar_layout.proofs.EveryLaws.{Left}
use Rattle.magnetar_matrix.specs.Matrix as matrix
use Rattle.magnetar_matrix.specs.Matrix.{sum_over, row_total}
use Rattle.magnetar_matrix.specs.Numbers.{Numbers, entries_by, entry_of}
use Rattle.magnetar_matrix.specs.declared.entries.Entry.{Entry}
use Rattle.magnetar_matrix.specs.Table.{added_at, raised}
use Rattle.magnetar_matrix.proofs.EntryLists.{next_entry}
use Rattle.magnetar_matrix.proofs.Walked.{Walked, walked_more, walked_end, Summed, summed-more, summed-end, tested-more, tested-not, tested-end}

-- what `at` says of entry i
abbrev pub Reads : Numbers → ℕ → Entry → Type 0
Reads s i e = record { row : e.row ≡ get_or s.row i 0; col : e.col ≡ get_or s.col i 0; lo : e.lo ≡ get_or s.lo i 0; hi : e.hi ≡ get_or s.hi i 0 }

module _ (s : Numbers) (i : ℕ) where
  pub next : (e : Entry) → i < length (entries_by s) → Reads s i e → drop i (entries_by s) ≡ entry_of e ∷ drop (i + 1) (entries_by s)
  next e b r = next_entry s i e b r.row r.col r.lo r.hi

  -- an amount added for each entry
  module _ (f : matrix.Entry → ℕ) (t₀ t : List ℕ) (k : Walked f (entries_by s) t₀ t i) where
    pub added : (e : Entry) → i < length (entries_by s) → Reads s i e → Walked f (entries_by s) t₀ (added_at t e.row (f (entry_of e))) (i + 1)
    added e b r = walked_more f (entries_by s) t₀ t i k (entry_of e) (next e b r)

    pub all-added : length (entries_by s) ≤ i → t ≡ raised (row_total f (entries_by s)) t₀
    all-added b = walked_end f (entries_by s) t₀ t i k (drop_of_length-le (entries_by s) b)

  -- a sum over the entries
  module _ (f : matrix.Entry → ℕ) (sum : ℕ) (k : Summed f (entries_by s) sum i) where
    pub summed : (e : Entry) → i < length (entries_by s) → Reads s i e → Summed f (entries_by s) (sum ⊕ f (entry_of e)) (i + 1)
    summed e b r = summed-more f (entries_by s) sum i k (entry_of e) (next e b r)

    pub all-summed : length (entries_by s) ≤ i → sum ≡ sum_over f (entries_by s)
    all-summed b = summed-end f (entries_by s) sum i k (drop_of_length-le (entries_by s) b)

  -- a test of each entry
  module _ (p : matrix.Entry → Bool) (k : Left p (entries_by s) i) where
    pub passed : (e : Entry) → i < length (entries_by s) → Reads s i e → p (entry_of e) ≡ true → Left p (entries_by s) (i + 1)
    passed e b r = tested-more p (entries_by s) i k (entry_of e) (next e b r)

    pub failed : (e : Entry) → i < length (entries_by s) → Reads s i e → p (entry_of e) ≡ false → false ≡ every p (entries_by s)
    failed e b r = tested-not p (entries_by s) i k (entry_of e) (next e b r)

    pub all-passed : length (entries_by s) ≤ i → true ≡ every p (entries_by s)
    all-passed b = tested-end p (entries_by s) i k (drop_of_length-le (entries_by s) b)
