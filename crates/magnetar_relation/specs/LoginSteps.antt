-- What the walk over a part of the entries does for a batch of logins, entry by entry. The contract of `write_products`, and private ones,
-- cite these definitions.
-- Source: the Rust's `apply_simd_packed`, entry by entry.
-- Assumes nothing.
use Rattle.std.specs.Prelude.{Bool, cond, ◌&&◌, List, ℕ, zero, suc, ◌+◌, ◌*◌, ltb, leb}
use Rattle.magnetar_layout.specs.Tests.{most_witness, most_logins, most_rows}
use Rattle.magnetar_matrix.specs.Matrix.{Entry, share}
use Rattle.magnetar_relation.specs.Steps.{login_z, cleared_to, added_to}
use Rattle.magnetar_relation.specs.EntryWalks.{fold_entries}

-- q logins of w columns and n rows, and row r, are within the limits
abbrev pub within_limits : ℕ → ℕ → ℕ → ℕ → Bool
within_limits q w n r = leb q most_logins && (leb w most_witness && (leb n most_rows && ltb r n))

-- the first q * n elements are 0
unfoldable pub cleared_blocks : ℕ → ℕ → ℕ → List ℕ → List ℕ
cleared_blocks q w n out = cond (within_limits q w n 0) (cleared_to (q * n) out) out

-- f u e added at e's row to block u of n elements, for the first logins u; k elements in all
unfoldable pub added_blocks : ℕ → ℕ → (ℕ → Entry → ℕ) → Entry → ℕ → List ℕ → List ℕ
added_blocks k n f e zero out = out
added_blocks k n f e (suc u) out = added_to k (u * n + e.row) (f u e) (added_blocks k n f e u out)

-- for q logins of w columns, within the limits
unfoldable pub added_logins : ℕ → ℕ → ℕ → (ℕ → Entry → ℕ) → Entry → List ℕ → List ℕ
added_logins q w n f e out = cond (within_limits q w n e.row) (added_blocks (q * n) n f e q out) out

-- the products of the entries with the logins' z, one login behind the other, in the place of the first q * n elements
unfoldable pub products_in : (q w n : ℕ) → (ws x : List ℕ) → List Entry → List ℕ → List ℕ
products_in q w n ws x es out = fold_entries (added_logins q w n (λ u. share (login_z w ws x u))) es (cleared_blocks q w n out)
