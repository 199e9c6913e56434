-- The sizes of a relation that a run goes by: logarithms to the base 2, since all of them are powers of two.
-- Source: document 01, "Forms that give way" (s, b, f, L and the order of the proof).
-- Assumes nothing.
use Rattle.std.specs.Prelude.{List, [], ℕ, ◌+◌, ◌-◌, ◌*◌, length}
use Rattle.magnetar_field.specs.Sizes.{log₂}
use Rattle.magnetar_matrix.specs.Matrix.{Matrix}
use Rattle.magnetar_matrix.specs.Batch.{Relation}

-- shared rounds: one for each bit of a login's number
abbrev pub log_logins : Relation → ℕ
log_logins r = log₂ r.q

-- row rounds of bin
abbrev pub log_bin : Relation → ℕ
log_bin r = log₂ r.bin.a.rows

-- and of fld
abbrev pub log_fld : Relation → ℕ
log_fld r = log₂ r.fld.a.rows

-- inner rounds: one for each bit of a column's number
abbrev pub log_cols : Relation → ℕ
log_cols r = log₂ r.m

-- the elements before the six terminals
abbrev pub before_terminals : Relation → ℕ
before_terminals r = 8 * log_logins r + 4 * log_bin r + 4 * log_fld r

-- before the inner rounds
abbrev pub before_inner : Relation → ℕ
before_inner r = before_terminals r + 6

-- before v_z
abbrev pub before_end : Relation → ℕ
before_end r = before_inner r + 3 * log_cols r

-- and in all, with s, b, f and c rounds of each kind and l segments
abbrev pub proof_total : (s b f c l : ℕ) → ℕ
proof_total s b f c l = 8 * s + 4 * b + 4 * f + 6 + 3 * c + 1 + l

abbrev pub proof_elements : Relation → ℕ
proof_elements r = proof_total (log_logins r) (log_bin r) (log_fld r) (log_cols r) (length r.lengths)

-- the elements of the claims: r_inst, r_low, and the segment values
abbrev pub claim_count : Relation → ℕ
claim_count r = log_logins r + (log_cols r - 1) + length r.lengths

-- ---- how many events of a run come before a check
-- up to and with the draws of tau
abbrev pub after_taus : Relation → ℕ
after_taus r = log_logins r + log_bin r + (log_logins r + log_fld r)

-- the shared rounds
abbrev pub after_shared : Relation → ℕ
after_shared r = after_taus r + 2 * log_logins r

-- the bin row rounds
abbrev pub after_bin : Relation → ℕ
after_bin r = after_shared r + 2 * log_bin r

-- the fld row rounds
abbrev pub after_outer : Relation → ℕ
after_outer r = after_bin r + 2 * log_fld r

-- the terminals and the draws of the alphas
abbrev pub after_alphas : Relation → ℕ
after_alphas r = after_outer r + 12

-- the inner rounds
abbrev pub after_inner : Relation → ℕ
after_inner r = after_alphas r + 2 * log_cols r

-- a matrix of n rows and m columns without entries
abbrev pub empty_matrix : ℕ → ℕ → Matrix
empty_matrix n m = record { rows = n; cols = m; entries = [] }

-- a relation with these sizes and segments, and no entries: the schedule, the proof's parts and the rounds depend on no more
abbrev pub sizes_only : (m q rows_bin rows_fld : ℕ) → List ℕ → Relation
sizes_only m q b f ns =
    record {
      m = m;
      q = q;
      bin = record { a = empty_matrix b m; b = empty_matrix b m; c = empty_matrix b m };
      fld = record { a = empty_matrix f m; b = empty_matrix f m; c = empty_matrix f m };
      lengths = ns;
    }
