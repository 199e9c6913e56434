-- The sizes that document 01 lets both ends have, each with the number of the refusal that a call outside of it meets. These are the
-- paper's limits and no tests; proofs/Within shows that no call within them is refused by 1 to 16.
-- Source: document 01, "Forms that give way", "The run" (scratch words) and "Who can be turned back".
-- Assumes nothing.
use Rattle.std.specs.Prelude.{◌≡◌, List, ℕ, ◌+◌, ◌-◌, ◌*◌, ◌/◌, ◌^◌, ◌≤◌, ◌<◌, max, length, get_or}
use Rattle.magnetar_field.specs.Sizes.{log₂}
use Rattle.magnetar_hash.specs.declared.transcript.Transcript.{Transcript}
use Rattle.magnetar_layout.specs.Layout.{layout_end}
use Rattle.magnetar_layout.specs.Tests.{most_columns, most_logins, most_rows, most_batch_rows, most_entries, most_segments}
use Rattle.magnetar_matrix.specs.Matrix.{Entry, Matrix, System}
use Rattle.magnetar_relation.specs.declared.shapes.Shape.{Shape}
use Rattle.magnetar_relation.specs.declared.shapes.SystemShape.{SystemShape}
use Rattle.magnetar_relation.specs.Rules.{Rules, entries_in, relation_of}
use Rattle.magnetar_spartan.specs.Refusals.{rows_bin, rows_fld}
use Rattle.magnetar_spartan.specs.Outcome.{verify_refusal, prove_refusal}

-- n is a power of two from least to most
pub record Power (least most n : ℕ) : Type 0 where
  pub exponent : ℕ
  pub power : n ≡ 2 ^ exponent
  pub low : least ≤ n
  pub high : n ≤ most

abbrev pub no_entry : Entry
no_entry = record { row = 0; col = 0; value = 0 }

-- 4 to 7: the matrix a, lent with the shape h, has n rows and m columns, at most 1,048,576 entries, and each of them inside
pub record MatrixWithin (n m : ℕ) (h : Shape) (a : Matrix) : Type 0 where
  pub rows : h.rows ≡ n
  pub cols : h.cols ≡ m
  pub few : h.entries ≤ most_entries
  pub inside : (i : ℕ) → i < length a.entries → ((get_or a.entries i no_entry).row < n) × ((get_or a.entries i no_entry).col < m)

-- 4 to 7: three matrices of the same rows over m columns, for q logins
pub record SystemWithin (m q : ℕ) (t : SystemShape) (s : System) : Type 0 where
  pub rows : Power 1 most_rows t.a.rows
  pub total : q * t.a.rows ≤ most_batch_rows
  pub a : MatrixWithin t.a.rows m t.a s.a
  pub b : MatrixWithin t.a.rows m t.b s.b
  pub c : MatrixWithin t.a.rows m t.c s.c

pub record RulesWithin (R : Rules) : Type 0 where
  -- 1
  pub columns : Power 2 most_columns R.m
  pub logins : Power 1 most_logins R.q
  -- 4 to 7
  pub bin : SystemWithin R.m R.q R.shapes.bin (relation_of R).bin
  pub fld : SystemWithin R.m R.q R.shapes.fld (relation_of R).fld
  -- 6: each number slice holds as many numbers as there are entries
  pub numbers : (i : ℕ) → i < length R.numbers → get_or R.numbers i 0 ≡ entries_in R.shapes.bin + entries_in R.shapes.fld
  -- 8, 9, 10
  pub lengths : (i : ℕ) → i < length R.lengths → Power 1 (R.m / 2) (get_or R.lengths i 0)
  pub ends : layout_end R.lengths ≤ R.m / 2
  pub segments : length R.lengths ≤ most_segments

-- the words of a proof and of the claims, as document 01 counts them
abbrev pub words_of_proof : Rules → ℕ
words_of_proof R = 2 * (8 * log₂ R.q + 4 * log₂ (rows_bin R) + 4 * log₂ (rows_fld R) + 7 + 3 * log₂ R.m + length R.lengths)

abbrev pub words_of_claims : Rules → ℕ
words_of_claims R = 2 * (log₂ R.q + (log₂ R.m - 1) + length R.lengths)

-- a call of the prover: packed words ws, public words x, transcript t, and room for proof w, claims c and scratch s
pub record ProveWithin (R : Rules) (ws x : List ℕ) (t : Transcript) (w c s : List ℕ) : Type 0 where
  pub rules : RulesWithin R
  -- 2, 3
  pub packed : length ws ≡ R.q * (2 * ((R.m / 2 + 127) / 128))
  pub public : length x ≡ R.q * (R.m - 2)
  -- 14
  pub counter : t.squeeze_ctr < 2 ^ 32
  -- 15
  pub proof : words_of_proof R ≤ length w
  pub claims : words_of_claims R ≤ length c
  pub scratch : 8 * (R.q * (rows_bin R + rows_fld R)) + 8 * R.m + 4 * max (rows_bin R) (rows_fld R) + 6 * R.q ≤ length s

-- a call of the verifier: public words x, proof words w, transcript t, and room for claims c and scratch s
pub record VerifyWithin (R : Rules) (x w : List ℕ) (t : Transcript) (c s : List ℕ) : Type 0 where
  pub rules : RulesWithin R
  -- 3
  pub public : length x ≡ R.q * (R.m - 2)
  -- 14
  pub counter : t.squeeze_ctr < 2 ^ 32
  -- 15
  pub claims : words_of_claims R ≤ length c
  pub scratch : 2 * R.m + 2 * max (rows_bin R) (rows_fld R) + 2 * R.q ≤ length s
  -- 16
  pub proof : length w ≡ words_of_proof R

-- ---- no call within the limits is refused by 1 to 16
abbrev pub ProveUnrefused : Type 0
ProveUnrefused =
    (R : Rules) (ws x : List ℕ) (t : Transcript) (w c s : List ℕ) → ProveWithin R ws x t w c s → prove_refusal R ws x t w c s ≡ 0

abbrev pub VerifyUnrefused : Type 0
VerifyUnrefused = (R : Rules) (x w : List ℕ) (t : Transcript) (c s : List ℕ) → VerifyWithin R x w t c s → verify_refusal R x w t c s ≡ 0
