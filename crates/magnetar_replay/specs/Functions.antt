-- The functions of a matrix: OP LENT SCRATCH ROWS COLS ROW COL LO HI X Y, with as many words lent as LENT and SCRATCH say.
-- Source: the form of the recorded answers (docs/VECTORS.md).
-- Assumes nothing.
use Rattle.std.specs.Prelude.{ℕ, Bool, cond, List, [], ◌++◌, Option, Some, None, Result, Ok, Err, codes, min, slice_index, bytes_eq}
use Rattle.magnetar_field.specs.declared.refusal.Refusal.{Refusal}
use Rattle.magnetar_field.specs.declared.gf128.Gf128.{Gf128}
use Rattle.magnetar_field.specs.Gf128.{value}
use Rattle.magnetar_field.specs.Number.{number}
use Rattle.magnetar_field.specs.Refusal.{unless_refused}
use Rattle.magnetar_field.specs.Words.{elements}
use Rattle.magnetar_matrix.specs.Lent.{Lent, matrix_of}
use Rattle.magnetar_matrix.specs.Matrix.{mle_at, binary, bit_valued}
use Rattle.magnetar_matrix.specs.Numbers.{Numbers, lent_by}
use Rattle.magnetar_r1cs.specs.Entries.{Flagged, flag, refusal, flagged_of, binary_refusal, apply_refusal, apply_out, packed_refusal, packed_out}
use Rattle.magnetar_r1cs.specs.Entries.{table_refusal, table_out, table_scratch, at_refusal, at_scratch}
use Rattle.magnetar_replay.specs.Lists.{list_behind, at_most, marked_words}
use Rattle.magnetar_replay.specs.Text.{element_text, flag_text, told_line, refused_line, listed_line, written_line}
use Rattle.magnetar_replay.specs.declared.matrix.Function.{Function}
use Rattle.magnetar_replay.specs.declared.matrix.Function.TheVariants.{IsBinary, Apply, Packed, Table, At}
use Rattle.magnetar_replay.specs.declared.matrix.Value.{Value}
use Rattle.magnetar_replay.specs.declared.matrix.Value.TheVariants.{Nothing, Flag, Element}
use Rattle.magnetar_replay.specs.declared.matrix.Told.{Told}

-- the function that a query of this name asks for
unfoldable pub function_named : (name : List ℕ) → Option Function
function_named name =
    cond (bytes_eq name (codes "isbinary")) (Some IsBinary)
    (cond (bytes_eq name (codes "apply")) (Some Apply)
    (cond (bytes_eq name (codes "packed")) (Some Packed)
    (cond (bytes_eq name (codes "table")) (Some Table)
    (cond (bytes_eq name (codes "at")) (Some At)
    None))))

-- the rows and the columns of a query's entries, or none where there are more than `most`
abbrev pub rows_asked : (nums : List ℕ) → (most : ℕ) → List ℕ
rows_asked nums most = at_most (list_behind nums 4 0) most

abbrev pub cols_asked : (nums : List ℕ) → (most : ℕ) → List ℕ
cols_asked nums most = at_most (list_behind nums 4 1) most

-- the entries of a query, at these rows and columns
abbrev pub entries_asked : (row col nums : List ℕ) → Numbers
entries_asked row col nums = record { row = row; col = col; lo = list_behind nums 4 2; hi = list_behind nums 4 3 }

-- what a function hands back besides words
pub data Handed : Type 0 where
  handed_nothing : Handed
  handed_flag : Bool → Handed
  handed_element : ℕ → Handed
  handed_refusal : ℕ → Handed

-- what the code hands back, as such
abbrev pub handed_by : Result Value Refusal → Handed
handed_by (Ok Nothing) = handed_nothing
handed_by (Ok (Flag b)) = handed_flag b
handed_by (Ok (Element e)) = handed_element (value e)
handed_by (Err r) = handed_refusal (number r)

-- what is handed back where n is no refusal, and else n
abbrev pub handed : ℕ → Handed → Handed
handed n h = unless_refused n h (handed_refusal n)

-- what an answer that is an element hands back, and one that is yes or no
abbrev pub element_by : Result Gf128 Refusal → Handed
element_by (Ok e) = handed_element (value e)
element_by (Err r) = handed_refusal (number r)

abbrev pub flag_by : Flagged → Handed
flag_by (flag b) = handed_flag b
flag_by (refusal n) = handed_refusal n

-- that, and the words that were lent, to be written to and as scratch
pub record Left : Type 0 where
  pub handed_back : Handed
  pub out : List ℕ
  pub scratch : List ℕ

abbrev pub left_of : Told → Left
left_of told = record { handed_back = handed_by told.answer; out = told.words.items; scratch = told.scratch.items }

-- the matrix a, the vectors or points x and y, q logins of w columns; the words lent, to be written to and as scratch
abbrev pub left_with : Function → Lent → (x y : List ℕ) → (q w : ℕ) → (out s : List ℕ) → Left
left_with IsBinary a x y q w out s =
    record { handed_back = flag_by (flagged_of (binary_refusal a) (binary (matrix_of a))); out = out; scratch = s }
left_with Apply a x y q w out s =
    record { handed_back = handed (apply_refusal a x out) handed_nothing; out = apply_out a x out; scratch = s }
left_with Packed a x y q w out s = record {
  handed_back = flag_by (flagged_of (packed_refusal a x y q w out) (bit_valued w (matrix_of a)));
  out = packed_out a x y q w out;
  scratch = s;
}
left_with Table a x y q w out s = record {
  handed_back = handed (table_refusal a x out s) handed_nothing;
  out = table_out a x out s;
  scratch = table_scratch a x out s;
}
left_with At a x y q w out s = record {
  handed_back = handed (at_refusal a x y s) (handed_element (mle_at (matrix_of a) (elements x) (elements y)));
  out = out;
  scratch = at_scratch a x y s;
}

-- what a function leaves of a query's numbers and entries: at most 4096 words are lent to be written to and 1024 as scratch, all marked
unfoldable pub function_left : Function → (nums : List ℕ) → Numbers → Left
function_left f nums es =
    let batch = list_behind nums 4 6 in
    left_with f (lent_by (slice_index nums 2) (slice_index nums 3) es) (list_behind nums 4 4) (list_behind nums 4 5)
    (slice_index batch 0) (slice_index batch 1)
    (marked_words (min (slice_index nums 0) 4096)) (marked_words (min (slice_index nums 1) 1024))

-- ---- what is written
-- the line of what a function handed back, and of the words lent to be written to
abbrev handed_line : Function → Handed → (out : List ℕ) → List ℕ
handed_line f handed_nothing out = written_line 0 out
handed_line f (handed_flag b) out = told_line (flag_text b)
handed_line f (handed_element v) out = told_line (element_text v)
handed_line Apply (handed_refusal n) out = written_line n out
handed_line Table (handed_refusal n) out = written_line n out
handed_line f (handed_refusal n) out = refused_line n

-- the line of words that comes after it, where one does
abbrev words_line : Function → Left → List ℕ
words_line Packed left = listed_line left.out
words_line Table left = listed_line left.scratch
words_line At left = listed_line left.scratch
words_line f left = []

-- the lines of what a function left
abbrev pub function_lines : Function → Left → List ℕ
function_lines f left = handed_line f left.handed_back left.out ++ words_line f left
