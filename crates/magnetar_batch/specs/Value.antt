-- The combined table at one column point: the outcome of `eval_m_combo`.
-- Source: document 02, U8 (the verifier needs the combined table only at one point); document 01, "Who can be turned back".
-- Assumes nothing.
use Rattle.std.specs.Prelude.{ℕ, true, List, ◌++◌, Result, Ok, Err, length, drop, replicate}
use Rattle.magnetar_field.specs.declared.gf128.Gf128.{Gf128}
use Rattle.magnetar_field.specs.declared.refusal.Refusal.{Refusal}
use Rattle.magnetar_field.specs.Gf128.{value}
use Rattle.magnetar_field.specs.Number.{number}
use Rattle.magnetar_field.specs.Refusal.{unless_refused}
use Rattle.magnetar_field.specs.Words.{elements}
use Rattle.magnetar_multilinear.specs.Multilinear.{mle}
use Rattle.magnetar_layout.specs.Tests.{first_refusal, column_tests, room_test_of}
use Rattle.magnetar_matrix.specs.Combined.{combined_table}
use Rattle.magnetar_relation.specs.Rules.{Rules, relation_of}
use Rattle.magnetar_relation.specs.RuleTests.{rule_tests_by}
use Rattle.magnetar_batch.specs.Entries.{combo_scratch_of}
use Rattle.magnetar_batch.specs.TableSteps.{point_in}

-- z, an earlier number; 1; 4 to 6 of the rules as they are lent; 15: the scratch. An entry outside its matrix is no refusal: it counts for nothing
unfoldable pub value_refusal : (z : ℕ) → Rules → (scratch : ℕ) → ℕ
value_refusal z R scratch =
    first_refusal z (column_tests R.m ++ (rule_tests_by R.m R.q R.shapes R.numbers true ++ room_test_of (combo_scratch_of R) scratch))

-- the table combined by the alphas al at the row points in front of p and r, taken at the column point in front of c
unfoldable pub combo_value : Rules → (al p r c : List ℕ) → ℕ
combo_value R al p r c =
    let n = R.shapes.bin.a.rows in
    let k = R.shapes.fld.a.rows in
    mle (combined_table R.m (relation_of R).bin (relation_of R).fld (elements al) (elements (point_in n p)) (elements (point_in k r)))
    (elements (point_in R.m c))

-- the number, the value, and what the scratch holds
pub record CombinedAt : Type 0 where
  pub code : ℕ
  pub value : ℕ
  pub scratch : List ℕ

-- the same of what the function returns and leaves; the value is 0 where it refuses
abbrev pub valued : Result Gf128 Refusal → List ℕ → CombinedAt
valued (Ok v) s = record { code = 0; value = value v; scratch = s }
valued (Err r) s = record { code = number r; value = 0; scratch = s }

-- the outcome: the value, and zeros in the place of the rows and of the eq table
unfoldable pub value_outcome : (z : ℕ) → Rules → (al p r c scratch : List ℕ) → CombinedAt
value_outcome z R al p r c s =
    unless_refused (value_refusal z R (length s))
    (record { code = 0; value = combo_value R al p r c; scratch = replicate (combo_scratch_of R) 0 ++ drop (combo_scratch_of R) s })
    (record { code = value_refusal z R (length s); value = 0; scratch = s })
