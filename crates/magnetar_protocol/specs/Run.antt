-- A verifying run with the draws as plain elements: its answer and its claims; and what its claims say.
-- Source: document 01, "The run" (accepted, the claims buffer, a true claim).
-- Assumes nothing.
use Rattle.std.specs.Prelude.{◌≡◌, List, ◌++◌, ℕ, ◌+◌, ◌-◌, ◌<◌, length, get_or, take, drop}
use Rattle.magnetar_matrix.specs.Batch.{Relation, Batch, PublicColumns, claim_value}
use Rattle.magnetar_layout.specs.Layout.{offset, local_vars}
use Rattle.magnetar_protocol.specs.Shape.{log_logins, log_cols}
use Rattle.magnetar_protocol.specs.Proof.{segment_values}
use Rattle.magnetar_protocol.specs.Draws.{Draws, draws_of, login_point, low_point}
use Rattle.magnetar_protocol.specs.Checks.{checks, first_failure}

-- the answer of the verifier: 0 where it accepts, or the first of 21 to 29 that applies
unfoldable pub verdict : Relation → PublicColumns → (w d : List ℕ) → ℕ
verdict r x w d = first_failure (checks r x w (draws_of r d))

-- the claims buffer's elements: r_inst, r_low, then the segment values
unfoldable pub claims : Relation → List ℕ → List ℕ → List ℕ
claims r w d = login_point (draws_of r d) ++ (low_point r (draws_of r d) ++ segment_values r w)

-- the value of a true claim on segment i, at r_inst and r_local, which is the first log2(length) elements of r_low
unfoldable pub true_value : Relation → Batch → Draws → ℕ → ℕ
true_value r b d i =
    claim_value r.q b (login_point d) (take (local_vars r.lengths i) (low_point r d)) (offset r.lengths i) (get_or r.lengths i 0)

-- ---- what a list of claims says
-- its first part: r_inst
abbrev pub inst_of : Relation → List ℕ → List ℕ
inst_of r c = take (log_logins r) c

-- then r_low
abbrev pub low_of : Relation → List ℕ → List ℕ
low_of r c = take (log_cols r - 1) (drop (log_logins r) c)

-- then the segment values
abbrev pub values_of : Relation → List ℕ → List ℕ
values_of r c = drop (log_logins r + (log_cols r - 1)) c

-- every claim of the list is true of the batch: value i is the claim's sum over the logins and the positions of segment i
abbrev pub ClaimsTrue : Relation → Batch → List ℕ → Type 0
ClaimsTrue r b c =
    (i : ℕ) → i < length r.lengths
    → get_or (values_of r c) i 0
    ≡ claim_value r.q b (inst_of r c) (take (local_vars r.lengths i) (low_of r c)) (offset r.lengths i) (get_or r.lengths i 0)
