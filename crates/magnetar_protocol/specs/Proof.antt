-- The proof as one list of elements, in document 01's order: per shared round 4 bin then 4 fld coefficients; bin row rounds, 4
-- each; fld row rounds, 4 each; 6 terminals; inner rounds, 3 each; v_z; segment values.
-- Source: document 01, "Forms that give way" (`VirtualSpartanProof`).
-- Assumes nothing.
use Rattle.std.specs.Prelude.{List, ◌++◌, ℕ, ◌+◌, ◌*◌, get_or, take, drop}
use Rattle.magnetar_field.specs.Tabulate.{tabulate}
use Rattle.magnetar_matrix.specs.Batch.{Relation}
use Rattle.magnetar_protocol.specs.Shape.{log_logins, log_bin, log_fld, log_cols, before_terminals, before_inner, before_end}

-- n elements from place i on
abbrev pub part : ℕ → ℕ → List ℕ → List ℕ
part i n w = take n (drop i w)

-- the messages of the outer sum-check of bin: the shared rounds, then its row rounds
unfoldable pub bin_messages : Relation → List ℕ → List (List ℕ)
bin_messages r w =
    tabulate (λ i. part (8 * i) 4 w) (log_logins r)
    ++ tabulate (λ i. part (8 * log_logins r + 4 * i) 4 w) (log_bin r)

-- and of fld
unfoldable pub fld_messages : Relation → List ℕ → List (List ℕ)
fld_messages r w =
    tabulate (λ i. part (8 * i + 4) 4 w) (log_logins r)
    ++ tabulate (λ i. part (8 * log_logins r + 4 * log_bin r + 4 * i) 4 w) (log_fld r)

-- the claimed values of Az, Bz, Cz of bin and of fld at the outer points
unfoldable pub terminals : Relation → List ℕ → List ℕ
terminals r w = part (before_terminals r) 6 w

-- one of them
abbrev pub terminal : Relation → List ℕ → ℕ → ℕ
terminal r w i = get_or w (before_terminals r + i) 0

-- the messages of the inner sum-check
unfoldable pub inner_rounds : Relation → List ℕ → List (List ℕ)
inner_rounds r w = tabulate (λ i. part (before_inner r + 3 * i) 3 w) (log_cols r)

-- v_z: the claimed value of the folded z at the column point
unfoldable pub value_z : Relation → List ℕ → ℕ
value_z r w = get_or w (before_end r) 0

-- the claimed values of the segments
unfoldable pub segment_values : Relation → List ℕ → List ℕ
segment_values r w = drop (before_end r + 1) w
