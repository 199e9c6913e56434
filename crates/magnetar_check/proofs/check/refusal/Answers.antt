use mathlib.Core.Path.{ap, ◌∙◌}
use mathlib.Core.List.{◌++◌}
use Rattle.magnetar_field.specs.declared.refusal.Refusal.TheVariants.{Room}
use Rattle.magnetar_layout.specs.Tests.{first_refusal}
use Rattle.magnetar_layout.proofs.Passing.{out-front, late, required}
use Rattle.magnetar_relation.specs.Rules.{rules_by}
use Rattle.magnetar_relation.specs.RuleTests.{rule_tests}
use Rattle.magnetar_relation.proofs.RuleLaws.{lengths-free}
use Rattle.magnetar_check.specs.Check.{check_refusal}
use Rattle.magnetar_check.proofs.CheckEnds.{front, layout, room-tests, back, laid-own, sixth-over}
use Rattle.magnetar_check.proofs.check.refusal.Goals as goal

pub returns-in_err-sizes : goal.returns-in_err-sizes
unfolding check_refusal
returns-in_err-sizes g c =
    let x = c.args in
    let R = rules_by x.m x.q x.lens.now x.sh (g.E.Entries.numbers x.es.now) in
    let k = back R x.packed.now x.x.now x.scratch in
    out-front (front R x.packed.now x.x.now x.scratch) (rule_tests R ++ k) _ _ c.from_residual.ensures.1 c.in_err-sizes.ensures

pub returns-in_err-check : goal.returns-in_err-check
unfolding check_refusal
returns-in_err-check g c =
    let x = c.args in
    let N = g.E.Entries.numbers x.es.now in
    let R = rules_by x.m x.q x.lens.now x.sh N in
    let free = lengths-free x.m x.q x.lens.now x.sh N.row N.col N.lo N.hi in
    let k = back R x.packed.now x.x.now x.scratch in
    late (front R x.packed.now x.x.now x.scratch) (rule_tests R ++ k) c.in_ok-sizes.ensures
    (out-front (rule_tests R) k _ _ c.from_residual-in_err-check.ensures.1 (c.in_err-check.ensures ∙ ap (first_refusal 0) free))

pub returns-in_err-refusal : goal.returns-in_err-refusal
unfolding check_refusal
returns-in_err-refusal g c =
    let x = c.args in
    let N = g.E.Entries.numbers x.es.now in
    let R = rules_by x.m x.q x.lens.now x.sh N in
    let free = lengths-free x.m x.q x.lens.now x.sh N.row N.col N.lo N.hi in
    let k = back R x.packed.now x.x.now x.scratch in
    let own = laid-own R x.packed.now x.x.now x.scratch c.in_ok-sizes.ensures in
    late (front R x.packed.now x.x.now x.scratch) (rule_tests R ++ k) c.in_ok-sizes.ensures
    (late (rule_tests R) k (c.in_ok-check.ensures ∙ ap (first_refusal 0) free)
    (out-front (layout R x.packed.now x.x.now x.scratch) (room-tests R x.packed.now x.x.now x.scratch) _ _
    c.from_residual-in_err-refusal.ensures.1 (c.in_err-refusal.ensures ∙ own)))

pub returns : goal.returns
unfolding check_refusal
returns g c =
    let x = c.args in
    let N = g.E.Entries.numbers x.es.now in
    let R = rules_by x.m x.q x.lens.now x.sh N in
    let free = lengths-free x.m x.q x.lens.now x.sh N.row N.col N.lo N.hi in
    let k = back R x.packed.now x.x.now x.scratch in
    let own = laid-own R x.packed.now x.x.now x.scratch c.in_ok-sizes.ensures in
    late (front R x.packed.now x.x.now x.scratch) (rule_tests R ++ k) c.in_ok-sizes.ensures
    (late (rule_tests R) k (c.in_ok-check.ensures ∙ ap (first_refusal 0) free)
    (late (layout R x.packed.now x.x.now x.scratch) (room-tests R x.packed.now x.x.now x.scratch) (c.in_ok-refusal.ensures ∙ own)
    (rw sixth-over at (rw c.max.ensures at (required c.require.result _ Room c.require.ensures)))))
