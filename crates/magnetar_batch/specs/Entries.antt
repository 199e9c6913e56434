-- The outcomes of the entries: which refusal applies, in rising order, and what each lent slice holds at exit.
-- Source: document 01, "Matrices and layout", "The run" (scratch words) and "Who can be turned back"; the Rust's `fold_packed_w` and
-- `build_m_combo`.
-- Assumes nothing.
use Rattle.std.specs.Prelude.{ℕ, ◌+◌, ◌*◌, List, ◌++◌, length, drop, replicate}
use Rattle.magnetar_field.specs.Refusal.{unless_refused}
use Rattle.magnetar_field.specs.Sizes.{log₂}
use Rattle.magnetar_field.specs.Words.{elements, words}
use Rattle.magnetar_matrix.specs.Batch.{folded, public_folded}
use Rattle.magnetar_matrix.specs.Combined.{combined_table}
use Rattle.magnetar_matrix.specs.Packed.{unpacked, public_of}
use Rattle.magnetar_layout.specs.Tests.{Tests, first_refusal, column_tests, size_tests, packed_tests, public_tests, length_test, room_test}
use Rattle.magnetar_relation.specs.Rules.{Rules, relation_of}
use Rattle.magnetar_relation.specs.RuleTests.{rule_tests}
use Rattle.magnetar_batch.specs.Systems.{point_tests, table_scratch_words, table_scratch_tests}

-- ---- `fold_packed_w`: the packed words ws of q logins with w columns, the point p, the output out, the scratch
-- 1 and 2; 11: the point; 15: the output or the scratch
unfoldable pub fold_refusal : List ℕ → ℕ → ℕ → List ℕ → List ℕ → List ℕ → ℕ
fold_refusal ws q w p out scratch =
    first_refusal 0
    (size_tests (2 * w) q ++ packed_tests w q ws ++ length_test (2 * log₂ q) p ++ room_test (2 * w) out ++ room_test (2 * q) scratch)

-- the output: the words of the folded vector, then what stood behind them
abbrev pub fold_out : List ℕ → ℕ → ℕ → List ℕ → List ℕ → List ℕ → List ℕ
fold_out ws q w p out scratch =
    unless_refused (fold_refusal ws q w p out scratch) (words (folded q w (unpacked q w ws) (elements p)) ++ drop (2 * w) out) out

-- the scratch: zeros, two for each login, then what stood behind them
abbrev pub fold_scratch : List ℕ → ℕ → ℕ → List ℕ → List ℕ → List ℕ → List ℕ
fold_scratch ws q w p out scratch = unless_refused (fold_refusal ws q w p out scratch) (replicate (2 * q) 0 ++ drop (2 * q) scratch) scratch

-- ---- `fold_packed_in`: the same within one slice
-- 1 and 2; 11: the point; 15: the slice
unfoldable pub fold_in_refusal : List ℕ → ℕ → ℕ → List ℕ → List ℕ → ℕ
fold_in_refusal ws q w p slice =
    first_refusal 0 (size_tests (2 * w) q ++ packed_tests w q ws ++ length_test (2 * log₂ q) p ++ room_test (2 * w + 2 * q) slice)

-- the slice at exit: the folded vector, zeros in the place of the eq table, the rest
abbrev pub fold_in_out : List ℕ → ℕ → ℕ → List ℕ → List ℕ → List ℕ
fold_in_out ws q w p slice =
    unless_refused (fold_in_refusal ws q w p slice)
    (words (folded q w (unpacked q w ws) (elements p)) ++ (replicate (2 * q) 0 ++ drop (2 * w + 2 * q) slice)) slice

-- ---- `fold_public_in`: the public words x of q logins with w witness columns, the point p, the slice
-- 1 and 3; 11: the point; 15: the slice
unfoldable pub public_in_refusal : List ℕ → ℕ → ℕ → List ℕ → List ℕ → ℕ
public_in_refusal x q w p slice =
    first_refusal 0 (size_tests (2 * w) q ++ public_tests (2 * w) q x ++ length_test (2 * log₂ q) p ++ room_test (2 * w + 2 * q) slice)

-- the slice at exit: the folded public half, zeros in the place of the eq table, the rest
abbrev pub public_in_out : List ℕ → ℕ → ℕ → List ℕ → List ℕ → List ℕ
public_in_out x q w p slice =
    unless_refused (public_in_refusal x q w p slice)
    (words (public_folded q w (public_of q w x) (elements p)) ++ (replicate (2 * q) 0 ++ drop (2 * w + 2 * q) slice)) slice

-- ---- `build_m_combo`: the rules R as they are lent for one login, the alphas al, the row points p and r, the output out, the scratch
-- 11: the alphas and the points for n and k rows; 15: the scratch or the output; by how many words there are
abbrev pub combo_rest : (m n k al p r out scratch : ℕ) → Tests
combo_rest m n k al p r out scratch = point_tests n k al p r ++ table_scratch_tests m n k scratch out

-- 1, 4 to 7, then these
unfoldable pub combo_refusal : Rules → (al p r : List ℕ) → (out scratch : ℕ) → ℕ
combo_refusal R al p r out scratch =
    first_refusal 0 (column_tests R.m ++ (rule_tests R
    ++ combo_rest R.m R.shapes.bin.a.rows R.shapes.fld.a.rows (length al) (length p) (length r) out scratch))

-- the words of the combined table
unfoldable pub combo_words : Rules → (al p r : List ℕ) → List ℕ
combo_words R al p r =
    words (combined_table R.m (relation_of R).bin (relation_of R).fld (elements al) (elements p) (elements r))

-- how many words the table and the larger eq table have
abbrev pub combo_scratch_of : Rules → ℕ
combo_scratch_of R = table_scratch_words R.m R.shapes.bin.a.rows R.shapes.fld.a.rows

-- the number, and what the output and the scratch hold
pub record Combined : Type 0 where
  pub code : ℕ
  pub out : List ℕ
  pub scratch : List ℕ

-- the same of what the function returns and leaves
abbrev pub combined : ℕ → (out scratch : List ℕ) → Combined
combined n o s = record { code = n; out = o; scratch = s }

-- the outcome: the words of the table in front of the output, and zeros in the place of the scratch's table and eq table
unfoldable pub combo_outcome : Rules → (al p r out scratch : List ℕ) → Combined
combo_outcome R al p r out scratch =
    unless_refused (combo_refusal R al p r (length out) (length scratch))
    (combined 0 (combo_words R al p r ++ drop (2 * R.m) out) (replicate (combo_scratch_of R) 0 ++ drop (combo_scratch_of R) scratch))
    (combined (combo_refusal R al p r (length out) (length scratch)) out scratch)
