-- The outputs of a batch as masks: where every output is 0 or 1, those of several logins at one row are the bits of one number.
-- Source: document 01, "Matrices and layout" (masks); the Rust's `apply_simd_bit_masks`.
-- Assumes nothing.
use Rattle.std.specs.Prelude.{List, [], ℕ, zero, suc, ◌+◌, ◌*◌, ◌^◌}
use Rattle.magnetar_field.specs.Tabulate.{tabulate}
use Rattle.magnetar_matrix.specs.Sum.{blocks}
use Rattle.magnetar_matrix.specs.Matrix.{Matrix, times_at}
use Rattle.magnetar_matrix.specs.Batch.{Batch, assignment}

-- the number whose bit t is f t, for each t below n
unfoldable pub bits_below : (ℕ → ℕ) → ℕ → ℕ
bits_below f zero = 0
bits_below f (suc n) = bits_below f n + f n * 2 ^ n

-- the mask of row r for the n logins low, d + low, 2 d + low, ..: bit t is row r of M (w, 1) for login t d + low
unfoldable pub mask_at : Matrix → Batch → ℕ → ℕ → ℕ → ℕ → ℕ
mask_at m b d n low r = bits_below (λ t. times_at m (assignment b [] (t * d + low)) r) n

-- the masks of all rows, one low behind the other: that of low and r is number low rows + r
unfoldable pub masks : Matrix → Batch → ℕ → ℕ → List ℕ
masks m b d n = blocks (λ low. tabulate (mask_at m b d n low) m.rows) d
