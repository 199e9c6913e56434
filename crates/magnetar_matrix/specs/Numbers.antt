-- The four lists of numbers that entries are read off, in whichever form they are lent.
-- Source: document 01, "Forms that give way" (parallel number slices, and a slice of entry records).
-- Assumes nothing.
use Rattle.std.specs.Prelude.{List, [], ◌∷◌, ℕ, ◌-◌, map, length, take, drop}
use Rattle.magnetar_matrix.specs.Matrix as matrix
use Rattle.magnetar_matrix.specs.Lent.{Lent, lent, entry, entries_of}
use Rattle.magnetar_matrix.specs.declared.entries.Entry.{Entry}
use Rattle.magnetar_matrix.specs.declared.entries.Slices.{Slices}

-- the rows, the columns, the low and the high words of the values
pub record Numbers : Type 0 where
  pub row : List ℕ
  pub col : List ℕ
  pub lo : List ℕ
  pub hi : List ℕ

-- the entries, as many as every list has
abbrev pub entries_by : Numbers → List matrix.Entry
entries_by s = entries_of s.row s.col s.lo s.hi

-- how many numbers each list has
abbrev pub counts : Numbers → List ℕ
counts s = length s.row ∷ length s.col ∷ length s.lo ∷ length s.hi ∷ []

-- a matrix of n rows and m columns with these entries
abbrev pub lent_by : ℕ → ℕ → Numbers → Lent
lent_by n m s = lent n m s.row s.col s.lo s.hi

-- rows and columns exchanged
abbrev pub exchanged : Numbers → Numbers
exchanged s = record { row = s.col; col = s.row; lo = s.lo; hi = s.hi }

-- those from place a to place b
abbrev pub part : ℕ → ℕ → Numbers → Numbers
part a b s = record {
  row = take (b - a) (drop a s.row);
  col = take (b - a) (drop a s.col);
  lo = take (b - a) (drop a s.lo);
  hi = take (b - a) (drop a s.hi);
}

-- the numbers of four slices
abbrev pub slice_numbers : Slices → Numbers
slice_numbers s = record { row = s.row.now; col = s.col.now; lo = s.lo.now; hi = s.hi.now }

-- ---- records
-- the entry that a record is
abbrev pub entry_of : Entry → matrix.Entry
entry_of e = entry e.row e.col e.lo e.hi

-- the numbers of a slice of records
abbrev pub record_numbers : List Entry → Numbers
record_numbers es = record {
  row = map (λ e. e.row) es;
  col = map (λ e. e.col) es;
  lo = map (λ e. e.lo) es;
  hi = map (λ e. e.hi) es;
}
