-- The limits of document 01, "Who can be turned back".
-- Assumes nothing.
use Rattle.std.specs.Prelude.{ℕ}

-- the most columns m that z = (w, 1, x) may have
abbrev pub most_columns : ℕ
most_columns = 65536

-- the most witness columns: half of them
abbrev pub most_witness : ℕ
most_witness = 32768

-- the most logins q of a batch
abbrev pub most_logins : ℕ
most_logins = 4096

-- the most rows of a matrix
abbrev pub most_rows : ℕ
most_rows = 65536

-- the most rows of all logins of a batch together
abbrev pub most_batch_rows : ℕ
most_batch_rows = 1048576

-- the most entries of a matrix
abbrev pub most_entries : ℕ
most_entries = 1048576

-- the most segments of a layout
abbrev pub most_segments : ℕ
most_segments = 64
