-- The outcomes of the entries of a layout: which refusal applies, in rising order, what is read and what is written.
-- Source: document 01, "Matrices and layout" and "Who can be turned back"; the Rust's `SegmentLayout`.
-- Assumes nothing.
use Rattle.std.specs.Prelude.{cond, List, [], ◌++◌, ℕ, ◌*◌, length, take, drop, get_or, ltb, Option, Some, None, Result, Ok, Err}
use Rattle.magnetar_field.specs.declared.refusal.Refusal.{Refusal}
use Rattle.magnetar_field.specs.Number.{number_of}
use Rattle.magnetar_field.specs.Refusal.{unless_refused}
use Rattle.magnetar_field.specs.Sizes.{log₂}
use Rattle.magnetar_layout.specs.Layout.{offsets, offset}
use Rattle.magnetar_layout.specs.Tests.{first_refusal, column_tests, layout_tests, length_test, room_test}

-- ---- segments of the lengths ns in w columns
-- `layout::refusal`: 1, 8, 9 and 10
unfoldable pub layout_refusal : ℕ → List ℕ → ℕ
layout_refusal w ns = first_refusal 0 (column_tests (2 * w) ++ layout_tests w ns)

-- `SegmentLayout::build`: the same, and 15 where there is less room than segments
unfoldable pub build_refusal : ℕ → List ℕ → List ℕ → ℕ
build_refusal w ns out = first_refusal 0 (column_tests (2 * w) ++ layout_tests w ns ++ room_test (length ns) out)

-- the output: the offsets, then what stood behind them
abbrev pub build_out : ℕ → List ℕ → List ℕ → List ℕ
build_out w ns out = unless_refused (build_refusal w ns out) (offsets ns ++ drop (length ns) out) out

-- ---- the readings of a layout: a number, no segment of that number, or the number of a refusal
pub data Read : Type 0 where
  number : ℕ → Read
  no_segment : Read
  refusal : ℕ → Read

-- the reading that an answer of the code is
abbrev pub read : Result (Option ℕ) Refusal → Read
read (Ok (Some n)) = number n
read (Ok None) = no_segment
read (Err r) = refusal (number_of {A = Option ℕ} (Err r))

-- the same of an answer that is a number
abbrev pub read_vars : Result ℕ Refusal → Read
read_vars (Ok n) = number n
read_vars (Err r) = refusal (number_of {A = ℕ} (Err r))

-- the number v of segment i, unless the layout is refused or has no such segment
abbrev pub read_of : ℕ → List ℕ → ℕ → ℕ → Read
read_of w ns i v =
    unless_refused (layout_refusal w ns) (cond (ltb i (length ns)) (number v) no_segment) (refusal (layout_refusal w ns))

-- `witness_vars`: 1 where 2w is no column count
unfoldable pub vars_refusal : ℕ → ℕ
vars_refusal w = first_refusal 0 (column_tests (2 * w))

-- how many variables number the w columns, unless they are refused
abbrev pub vars_of : ℕ → Read
vars_of w = unless_refused (vars_refusal w) (number (log₂ w)) (refusal (vars_refusal w))

-- ---- `segment`: the part of the folded words v that segment i has, or an empty part
-- 1, 8 to 10, and 11 where the words are not two for each column
unfoldable pub segment_refusal : ℕ → List ℕ → List ℕ → ℕ
segment_refusal w ns v = first_refusal 0 (column_tests (2 * w) ++ layout_tests w ns ++ length_test (2 * w) v)

-- the words of its columns; none where there is a refusal or no such segment
unfoldable pub segment_part : ℕ → List ℕ → ℕ → List ℕ → List ℕ
segment_part w ns i v =
    unless_refused (segment_refusal w ns v)
    (cond (ltb i (length ns)) (take (2 * get_or ns i 0) (drop (2 * offset ns i) v)) []) []
