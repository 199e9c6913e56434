-- What the refusals 1 to 10 leave of a run's sizes, where none of them applies.
-- Assumes nothing.
use mathlib.Core.Path.{◌≡◌, refl, sym}
use mathlib.Core.List.{[], ◌++◌}
use Prim.Native.Nat.{ℕ, ◌/◌}
use lib.ListN.{length}
use borrow.Author.Tests.{ltb-false}
use Rattle.magnetar_layout.specs.Tests.{first_refusal, size_tests, public_tests_of, layout_tests, rows_tests, Sized}
use Rattle.magnetar_layout.proofs.FirstRefusal.{first-refusal-clear}
use Rattle.magnetar_layout.proofs.SizeLaws.{not-bad}
use Rattle.magnetar_protocol.specs.RunTests.{run_tests}
use Rattle.magnetar_relation.specs.Rules.{Rules, relation_of}
use Rattle.magnetar_relation.specs.RuleTests.{rule_tests}
use Rattle.magnetar_spartan.specs.Refusals.{rows_bin, rows_fld, rules_tests}
use Rattle.magnetar_spartan.specs.Numbers.{Outlined}
use Rattle.magnetar_spartan.proofs.SizedRules.{systems, rule-numbered, rows-passes}
use Rattle.magnetar_spartan.proofs.PassedTests.{first-refusal-none, numbered-join, clear-front, clear-back}

pub record Sizes (m q : ℕ) : Type 0 where
  pub columns : Sized 2 65536 m
  pub logins : Sized 1 4096 q

pub sizes-of : (m q : ℕ) → first_refusal 0 (size_tests m q) ≡ 0 → Sizes m q
sizes-of m q e =
    let c = (first-refusal-clear 0 (size_tests m q) refl e).1 in
    record { columns = not-bad c.0; logins = not-bad c.1.0 }

-- with so many public words x
pub outlined : (R : Rules) (x : ℕ) → 0 ≡ first_refusal 0 (size_tests R.m R.q) → 0 ≡ first_refusal 0 (public_tests_of R.m R.q x ++ rules_tests R)
    → Outlined R.m R.q (rows_bin R) (rows_fld R) R.lengths
outlined R x e h =
    let a = (first-refusal-clear 0 (size_tests R.m R.q) refl (sym e)).1 in
    let laid = layout_tests (R.m / 2) R.lengths in
    let b = (first-refusal-clear 0 (public_tests_of R.m R.q x ++ rules_tests R) (numbered-join (rule_tests R) laid (rule-numbered R) refl) (sym h)).1.1 in
    let y = systems R (clear-front (rule_tests R) laid b) in
    let l = clear-back (rule_tests R) laid b in record {
      sizes = first-refusal-none (run_tests R.m R.q (rows_bin R) (rows_fld R)) (
        a.0,
        (
          a.1.0,
          rows-passes R.m R.q (relation_of R).bin y.bin (rows_tests R.q (rows_fld R)) (rows-passes R.m R.q (relation_of R).fld y.fld [] tt),
        ),
      );
      segments = ltb-false 64 (length R.lengths) l.1.1.0;
    }
