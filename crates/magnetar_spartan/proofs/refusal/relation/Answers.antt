use mathlib.Core.Path.{◌∙◌, ap}
use mathlib.Core.List.{[]}
use Prim.Native.Nat.{◌-◌, ◌/◌}
use native.Mathlib.Omega.{arith}
use Rattle.magnetar_layout.specs.Tests.{public_tests_of, layout_tests}
use Rattle.magnetar_matrix.proofs.Blocks.{product-fits}
use Rattle.magnetar_field.specs.declared.refusal.Refusal.TheVariants.{PublicWords}
use Rattle.magnetar_relation.specs.Rules.{Rules}
use Rattle.magnetar_relation.specs.RuleTests.{rule_tests}
use Rattle.magnetar_relation.specs.Rules.{rules_by}
use Rattle.magnetar_spartan.specs.Refusals.{rules_tests}
use Rattle.magnetar_spartan.proofs.Chains.{layout-tests}
use Rattle.magnetar_layout.proofs.Passing.{out-front, late, required}
use Rattle.magnetar_spartan.proofs.ByNumbers.{sizes-of}
use Prim.Native.Nat.{ℕ}
use mathlib.Core.Path.{◌≡◌}
use mathlib.Core.List.{List}
use Rattle.magnetar_layout.specs.Tests.{first_refusal}
use Rattle.magnetar_matrix.specs.Numbers.{Numbers}
use Rattle.magnetar_relation.specs.declared.shapes.Shapes.{Shapes}
use Rattle.magnetar_relation.proofs.RuleLaws.{lengths-free}
use Rattle.magnetar_spartan.proofs.refusal.relation.Goals as goal

-- 4 to 7 see no segment
free : (m q : ℕ) (ns : List ℕ) (s : Shapes) (N : Numbers) → rule_tests (rules_by m q [] s N) ≡ rule_tests (rules_by m q ns s N)
free m q ns s N = lengths-free m q ns s N.row N.col N.lo N.hi

pub overflow_sub-m : goal.overflow_sub-m
overflow_sub-m g c = (sizes-of _ _ c.requires).columns.low

pub overflow_mul-q : goal.overflow_mul-q
overflow_mul-q g c =
    let x = c.args in
    let z = sizes-of _ _ c.requires in
    omega (arith, product-fits x.q (x.m - 2) z.logins.high (omega (arith, z.columns.high)))

pub returns-in_err-require : goal.returns-in_err-require
returns-in_err-require g c =
    let x = c.args in
    let R : Rules = rules_by x.m x.q x.lens.now x.sh (g.E.Entries.numbers x.es.now) in
    out-front (public_tests_of x.m x.q x.x) (rules_tests R) _ _ c.from_residual.ensures.1
    (rw c.in_err-require.was at (required _ _ PublicWords c.require.ensures))

pub returns-in_err-check : goal.returns-in_err-check
returns-in_err-check g c =
    let x = c.args in
    let R : Rules = rules_by x.m x.q x.lens.now x.sh (g.E.Entries.numbers x.es.now) in
    late (public_tests_of x.m x.q x.x) (rules_tests R) (rw c.in_ok-require.was at (required _ _ PublicWords c.require.ensures))
    (out-front (rule_tests R) (layout_tests (x.m / 2) x.lens.now) _ _ c.from_residual-in_err-check.ensures.1
    (c.in_err-check.ensures ∙ ap (first_refusal 0) (free x.m x.q x.lens.now x.sh (g.E.Entries.numbers x.es.now))))

pub returns : goal.returns
returns g c =
    let x = c.args in
    let R : Rules = rules_by x.m x.q x.lens.now x.sh (g.E.Entries.numbers x.es.now) in
    late (public_tests_of x.m x.q x.x) (rules_tests R) (rw c.in_ok-require.was at (required _ _ PublicWords c.require.ensures))
    (late (rule_tests R) (layout_tests (x.m / 2) x.lens.now)
    (c.in_ok-check.ensures ∙ ap (first_refusal 0) (free x.m x.q x.lens.now x.sh (g.E.Entries.numbers x.es.now)))
    (c.refusal.ensures ∙ layout-tests x.m x.lens.now (sizes-of _ _ c.requires).columns))
