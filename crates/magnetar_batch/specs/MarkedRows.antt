-- Document 01's twelve marked rows. Each case is what the contract of its entry says: the product; or the number that the entry returns and
-- the words of its output at exit; or the packed flag and these words. Lent outputs and scratch hold 9 in each word at entry.
-- Source: document 01, "Marked rows".
-- Assumes nothing.
use Rattle.std.specs.Prelude.{◌≡◌, ℕ, ◌+◌, ◌^◌, false, List, [], ◌∷◌, map, replicate}
use Rattle.magnetar_field.specs.Gf128.{◌⊗◌}
use Rattle.magnetar_field.specs.Words.{words}
use Rattle.magnetar_multilinear.specs.Entries.{eq_refusal, eq_out}
use Rattle.magnetar_layout.specs.Entries.{build_refusal, build_out}
use Rattle.magnetar_matrix.specs.Matrix.{bit_valued}
use Rattle.magnetar_matrix.specs.Lent.{Lent, lent, matrix_of}
use Rattle.magnetar_r1cs.specs.Entries.{Flagged, flagged_of, packed_refusal, packed_out, table_refusal, table_out}
use Rattle.magnetar_r1cs.specs.Entries.Flagged.{flag}
use Rattle.magnetar_batch.specs.Entries.{fold_refusal, fold_out}

-- what a row of the table says: an element; a number (0: no refusal) and the output's words; or a flag and the output's words
pub data Result : Type 0 where
  element : ℕ → Result
  written : ℕ → List ℕ → Result
  packed : Flagged → List ℕ → Result

-- a row: its number, its case and its result
pub record Row : Type 0 where
  pub number : ℕ
  pub case : Result
  pub result : Result

-- such a row
abbrev pub row : ℕ → Result → Result → Row
row n c r = record { number = n; case = c; result = r }

-- n words that are lent, at entry
abbrev pub nines : ℕ → List ℕ
nines n = replicate n 9

-- the matrix of rows 7 and 8, as four number slices
abbrev pub matrix : Lent
matrix = lent 2 4 (0 ∷ 0 ∷ 1 ∷ 1 ∷ 1 ∷ []) (0 ∷ 2 ∷ 1 ∷ 3 ∷ 1 ∷ []) (1 ∷ 3 ∷ 7 ∷ 2 ∷ 7 ∷ []) (0 ∷ 0 ∷ 0 ∷ 0 ∷ 0 ∷ [])

-- rows 1 to 4: `mul`
abbrev pub product : (a b : ℕ) → Result
product a b = element (a ⊗ b)

-- rows 5 and 6: `EqBits::build` of the point p, from 1
abbrev pub eq_built : (p out : List ℕ) → Result
eq_built p out = written (eq_refusal p out) (eq_out p 1 out)

-- row 7: `apply_simd_packed` for the packed words ws of q logins with w columns and the public words x
abbrev pub applied : (ws x : List ℕ) → (q w : ℕ) → (out : List ℕ) → Result
applied ws x q w out =
    packed (flagged_of (packed_refusal matrix ws x q w out) (bit_valued w (matrix_of matrix))) (packed_out matrix ws x q w out)

-- row 8: `eval_mle_table` at the row point p
abbrev pub evaluated : (p out scratch : List ℕ) → Result
evaluated p out s = written (table_refusal matrix p out s) (table_out matrix p out s)

-- row 9: `fold_packed_w` of the packed words ws of q logins with w columns at the point p
abbrev pub folded_all : (ws : List ℕ) → (q w : ℕ) → (p out scratch : List ℕ) → Result
folded_all ws q w p out s = written (fold_refusal ws q w p out s) (fold_out ws q w p out s)

-- rows 10 to 12: `SegmentLayout::build` of segments of the lengths ns in w columns
abbrev pub built : ℕ → (ns out : List ℕ) → Result
built w ns out = written (build_refusal w ns out) (build_out w ns out)

-- the table
unfoldable pub table : List Row
table =
    row 1 (product 2 (2 ^ 127)) (element 0x87)
    ∷ row 2 (product (2 ^ 127) (2 ^ 127)) (element (2 ^ 127 + 2 ^ 126 + 0x1067))
    ∷ row 3 (product (2 ^ 63) 2) (element (2 ^ 64))
    ∷ row 4 (product 3 7) (element 9)
    ∷ row 5 (eq_built [] (nines 2)) (written 0 (words (1 ∷ [])))
    ∷ row 6 (eq_built (words (2 ∷ 4 ∷ [])) (nines 8)) (written 0 (words (15 ∷ 10 ∷ 12 ∷ 8 ∷ [])))
    ∷ row 7 (applied (3 ∷ 0 ∷ []) (words (5 ∷ [])) 1 2 (nines 4)) (packed (flag false) (words (2 ∷ 10 ∷ [])))
    ∷ row 8 (evaluated (words (2 ∷ [])) (nines 8) (nines 4)) (written 0 (words (3 ∷ 0 ∷ 5 ∷ 4 ∷ [])))
    ∷ row 9 (folded_all (1 ∷ 0 ∷ 3 ∷ 0 ∷ []) 2 2 (words (2 ∷ [])) (nines 4) (nines 4)) (written 0 (words (1 ∷ 2 ∷ [])))
    ∷ row 10 (built 16 (4 ∷ 1 ∷ 8 ∷ []) (nines 3)) (written 0 (0 ∷ 4 ∷ 8 ∷ []))
    ∷ row 11 (built 16 (1 ∷ 8 ∷ 8 ∷ []) (nines 3)) (written 9 (nines 3))
    ∷ row 12 (built 16 (3 ∷ []) (nines 1)) (written 8 (nines 1)) ∷ []

-- proofs/MarkedRows `marked`: each case has the table's result
abbrev pub MarkedRows : Type 0
MarkedRows = map (λ r. r.case) table ≡ map (λ r. r.result) table
