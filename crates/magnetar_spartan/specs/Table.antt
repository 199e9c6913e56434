-- The combined table at the words of the draws, and its value at the inner point. Only the contracts of private functions speak of this.
-- Assumes nothing.
use Rattle.std.specs.Prelude.{List, [], ℕ, ◌+◌, ◌-◌, ◌*◌, min, take, drop}
use Rattle.magnetar_field.specs.Sizes.{log₂}
use Rattle.magnetar_matrix.specs.Batch.{Relation}
use Rattle.magnetar_relation.specs.Rules.{Rules}
use Rattle.magnetar_spartan.specs.declared.combine.Points.{Points}
use Rattle.magnetar_batch.specs.TableSteps.{padded, table_made}
use Rattle.magnetar_batch.specs.Value.{CombinedAt, value_outcome}

-- ---- where the row points, the alphas and the inner point stand among the words of the draws, with q logins and b and f rows
abbrev pub bin_at : (q b f : ℕ) → ℕ
bin_at q b f = 2 * (log₂ q + log₂ b + (log₂ q + log₂ f) + log₂ q)

abbrev pub fld_at : (q b f : ℕ) → ℕ
fld_at q b f = bin_at q b f + 2 * log₂ b

abbrev pub alphas_at : (q b f : ℕ) → ℕ
alphas_at q b f = fld_at q b f + 2 * log₂ f

abbrev pub inner_at : (q b f : ℕ) → ℕ
inner_at q b f = alphas_at q b f + 12

-- n words from word k on, of 256
abbrev pub window : (n k : ℕ) → List ℕ → List ℕ
window n k d = padded n (take n (drop (min k (256 - n)) d))

-- the alphas and both row points
abbrev pub points_at : (q b f : ℕ) → List ℕ → Points
points_at q b f d = record { alphas = window 12 (alphas_at q b f) d; bin = window 32 (bin_at q b f) d; fld = window 32 (fld_at q b f) d }

-- the table, in front of s, at the words d of the draws
abbrev pub table_at : Relation → (d s : List ℕ) → List ℕ
table_at r d s =
    let b = r.bin.a.rows in
    let f = r.fld.a.rows in
    table_made r (window 12 (alphas_at r.q b f) d) (window 32 (bin_at r.q b f) d) (window 32 (fld_at r.q b f) d) s

-- ---- its value at the inner point, the words s being room
-- the rules as they are lent for one login
abbrev pub for_one : Rules → Rules
for_one R = record { m = R.m; q = 1; lengths = []; shapes = R.shapes; numbers = R.numbers; entries = R.entries }

abbrev pub value_at : Rules → (d s : List ℕ) → CombinedAt
value_at R d s =
    let b = R.shapes.bin.a.rows in
    let f = R.shapes.fld.a.rows in
    value_outcome 0 (for_one R) (window 12 (alphas_at R.q b f) d) (window 32 (bin_at R.q b f) d) (window 32 (fld_at R.q b f) d) (window 32 (inner_at R.q b f) d) s

-- the value, and what is left of s
abbrev pub table_value : Rules → (d s : List ℕ) → ℕ
table_value R d s = (value_at R d s).value

abbrev pub value_left : Rules → (d s : List ℕ) → List ℕ
value_left R d s = (value_at R d s).scratch
