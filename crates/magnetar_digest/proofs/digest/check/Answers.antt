use Rattle.std.proofs.Common.{◌/◌, ◌++◌, refl, ◌∙◌}
use borrow.Author.Tests.{not-false}
use Rattle.magnetar_layout.specs.Tests.{size_tests, layout_tests, is_size, most_columns}
use Rattle.magnetar_layout.proofs.Laid.{layout-own}
use Rattle.magnetar_layout.proofs.Passing.{out-front, late, cleared}
use Rattle.magnetar_relation.specs.Rules.{rules_by, in_relation}
use Rattle.magnetar_relation.specs.RuleTests.{rule_tests}
use Rattle.magnetar_digest.specs.Digest.{digest_refusal}
use Rattle.magnetar_digest.proofs.digest.check.Goals as goal

pub returns-in_err-sizes : goal.returns-in_err-sizes
unfolding digest_refusal
returns-in_err-sizes g c =
    let x = c.args in
    let R = rules_by x.m x.q x.lens.now x.sh (g.E.Entries.numbers x.es.now) in
    out-front (size_tests x.m x.q) (rule_tests R ++ layout_tests (x.m / 2) x.lens.now) _ _ c.from_residual.ensures.1 c.in_err-sizes.ensures

pub returns-in_err-check : goal.returns-in_err-check
unfolding digest_refusal in_relation
returns-in_err-check g c =
    let x = c.args in
    let R = rules_by x.m x.q x.lens.now x.sh (g.E.Entries.numbers x.es.now) in
    late (size_tests x.m x.q) (rule_tests R ++ layout_tests (x.m / 2) x.lens.now) c.in_ok-sizes.ensures
    (out-front (rule_tests R) (layout_tests (x.m / 2) x.lens.now) _ _ c.from_residual-in_err-check.ensures.1 c.in_err-check.ensures)

pub returns : goal.returns
unfolding digest_refusal in_relation
returns g c =
    let x = c.args in
    let R = rules_by x.m x.q x.lens.now x.sh (g.E.Entries.numbers x.es.now) in
    let k = cleared (size_tests x.m x.q) refl c.in_ok-sizes.ensures in
    late (size_tests x.m x.q) (rule_tests R ++ layout_tests (x.m / 2) x.lens.now) c.in_ok-sizes.ensures
    (late (rule_tests R) (layout_tests (x.m / 2) x.lens.now) c.in_ok-check.ensures
    (c.refusal.ensures ∙ layout-own x.m x.lens.now (not-false (is_size 2 most_columns x.m) k.0)))
