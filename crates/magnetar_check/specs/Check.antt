-- The answer of the plain row check.
-- Source: document 01, "Matrices and layout" (added: a plain row check), "The run" (scratch words) and "Who can be turned back";
-- document 02, U3 (stray bits; 8 to 10 after 7 and before 15).
-- Assumes nothing.
use Rattle.std.specs.Prelude.{Result, Ok, Err, ℕ, ◌*◌, ◌/◌, max, List, ◌++◌, length, drop, replicate}
use Rattle.magnetar_field.specs.declared.refusal.Refusal.{Refusal}
use Rattle.magnetar_field.specs.Number.{number}
use Rattle.magnetar_field.specs.Refusal.{unless_refused}
use Rattle.magnetar_matrix.specs.Packed.{unpacked, public_of}
use Rattle.magnetar_matrix.specs.RowCheck.{Verdict, row_verdict}
use Rattle.magnetar_matrix.specs.RowCheck.Verdict.{good, stray, bin, fld}
use Rattle.magnetar_layout.specs.Tests.{Tests, first_refusal, size_tests, packed_tests, public_tests, layout_tests, room_test_of}
use Rattle.magnetar_relation.specs.Rules.{Rules, relation_of}
use Rattle.magnetar_relation.specs.RuleTests.{rule_tests}
use Rattle.magnetar_check.specs.declared.check.RowCheck.{RowCheck}
use Rattle.magnetar_check.specs.declared.check.RowCheck.TheVariants as found

-- a verdict, or the number of a refusal
pub data Outcome : Type 0 where
  judged : Verdict → Outcome
  refused : ℕ → Outcome

-- the verdict that a value of the code's enum is
abbrev pub verdict : RowCheck → Verdict
verdict found.Good = good
verdict (found.Stray u y) = stray u y
verdict (found.Bin u i) = bin u i
verdict (found.Fld u i) = fld u i

-- the outcome that the code's answer is
abbrev pub outcome : Result RowCheck Refusal → Outcome
outcome (Ok r) = judged (verdict r)
outcome (Err r) = refused (number r)

-- 15: fewer words of scratch than three products of the larger of n and k rows have
abbrev pub check_scratch_tests : (n k room : ℕ) → Tests
check_scratch_tests n k room = room_test_of (6 * max n k) room

-- the words of three products of the larger row count
abbrev pub check_scratch_of : Rules → ℕ
check_scratch_of R = 6 * max R.shapes.bin.a.rows R.shapes.fld.a.rows

-- ---- `row_check`: the rules R as they are lent, the packed words ws, the public words x, and how many words of scratch
-- 1 to 10 and 15
unfoldable pub check_refusal : Rules → (ws x : List ℕ) → (scratch : ℕ) → ℕ
check_refusal R ws x scratch =
    first_refusal 0 (size_tests R.m R.q ++ (packed_tests (R.m / 2) R.q ws ++ (public_tests R.m R.q x ++ (rule_tests R
    ++ (layout_tests (R.m / 2) R.lengths ++ check_scratch_tests R.shapes.bin.a.rows R.shapes.fld.a.rows scratch)))))

-- what the function returns, and what the scratch holds
pub record Checked : Type 0 where
  pub answer : Outcome
  pub scratch : List ℕ

-- the same of the code's answer and the scratch at exit
abbrev pub checked : Result RowCheck Refusal → List ℕ → Checked
checked r s = record { answer = outcome r; scratch = s }

-- the outcome: the verdict, and zeros in the place of the products
unfoldable pub check_outcome : Rules → (ws x scratch : List ℕ) → Checked
check_outcome R ws x scratch =
    unless_refused (check_refusal R ws x (length scratch))
    (record {
      answer = judged (row_verdict (relation_of R) (unpacked R.q (R.m / 2) ws) (public_of R.q (R.m / 2) x));
      scratch = replicate (check_scratch_of R) 0 ++ drop (check_scratch_of R) scratch;
    })
    (record { answer = refused (check_refusal R ws x (length scratch)); scratch = scratch })
