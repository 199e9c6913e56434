-- What the theorem on an accepted run speaks of: the lists of bad draws, one definition for every draw of a run. Nothing here mentions a
-- hash or a transcript.
-- Source: document 01, "The run" (demand 3's lists).
-- Assumes nothing.
use mathlib.Core.List.{List, map, Memᴰ}
use Rattle.std.specs.Prelude.{ℕ, ◌<◌, ◌≤◌, length, get_or, take}
use Rattle.magnetar_matrix.specs.Batch.{Relation, Batch, PublicColumns}
use Rattle.magnetar_theory.specs.Lists.{lists}
use Rattle.magnetar_theory.specs.Absorbed.{absorbed_count}
use Rattle.magnetar_theory.specs.Gf128.{number, gf128}
use Rattle.magnetar_protocol.specs.Shape.{log_logins, log_bin, log_fld}
use Rattle.magnetar_protocol.specs.Theory.{els, relation_e, public_e, batch_e}

-- the list of the next draw, from the relation, the batch, the public columns, the proof's elements absorbed so far, and the
-- draws so far
unfoldable pub bad_draws : Relation → Batch → PublicColumns → (absorbed drawn : List ℕ) → List ℕ
bad_draws r b x absorbed drawn =
    map number (lists gf128 (log_logins r) (relation_e r) (public_e x) (batch_e b) (els absorbed) (els drawn))

-- how many of the proof's elements are absorbed before draw k
unfoldable pub absorbed_before : Relation → ℕ → ℕ
absorbed_before r k = absorbed_count (log_logins r) (log_bin r) (log_fld r) k

-- some draw lies in its list, and that list has at most three elements
abbrev pub BadDraw : Relation → Batch → PublicColumns → (words draws : List ℕ) → Type 0
BadDraw r b x w d =
    (k : ℕ) × (k < length d) × (length (bad_draws r b x (take (absorbed_before r k) w) (take k d)) ≤ 3)
    × Memᴰ (get_or d k 0) (bad_draws r b x (take (absorbed_before r k) w) (take k d))
