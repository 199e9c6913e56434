use mathlib.Core.Path.{sym}
use mathlib.Core.Bool.{not}
use mathlib.Core.List.{[], ◌∷◌, ◌++◌}
use Rattle.magnetar_layout.proofs.Passing.{out-front, late, required}
use Rattle.magnetar_field.specs.declared.refusal.Refusal.TheVariants.{EntryPlace}
use Rattle.magnetar_relation.specs.RuleTests.{shape_tests, number_tests, total, rule_tests_by}
use Rattle.magnetar_relation.proofs.RuleLaws.{shapes-few}
use Rattle.magnetar_relation.proofs.rules.refusal.Goals as goal

pub returns-in_err-shapes : goal.returns-in_err-shapes
unfolding rule_tests_by
returns-in_err-shapes c =
    let x = c.args in
    out-front (shape_tests x.m x.q x.s) (number_tests (total x.s) x.counts ++ ((7, not x.inside) ∷ [])) _ _
    c.from_residual.ensures.1 c.in_err-shapes.ensures

pub entries_in-requires : goal.entries_in-requires
entries_in-requires c = let k = (shapes-few c.args.m c.args.q c.args.s (sym c.in_ok-shapes.ensures)).0 in (k.a, k.b, k.c)

pub entries_in-requires-2 : goal.entries_in-requires-2
entries_in-requires-2 c = let k = (shapes-few c.args.m c.args.q c.args.s (sym c.in_ok-shapes.ensures)).1 in (k.a, k.b, k.c)

pub returns-in_err-numbers : goal.returns-in_err-numbers
unfolding rule_tests_by
returns-in_err-numbers c =
    let x = c.args in
    let counted = rw (c.entries_in.ensures.0, c.entries_in-2.ensures.0) at c.in_err-numbers.ensures in
    late (shape_tests x.m x.q x.s) (number_tests (total x.s) x.counts ++ ((7, not x.inside) ∷ [])) c.in_ok-shapes.ensures
    (out-front (number_tests (total x.s) x.counts) ((7, not x.inside) ∷ []) _ _ c.from_residual-in_err-numbers.ensures.1 counted)

pub returns : goal.returns
unfolding rule_tests_by
returns c =
    let x = c.args in
    let counted = rw (c.entries_in.ensures.0, c.entries_in-2.ensures.0) at c.in_ok-numbers.ensures in
    late (shape_tests x.m x.q x.s) (number_tests (total x.s) x.counts ++ ((7, not x.inside) ∷ [])) c.in_ok-shapes.ensures
    (late (number_tests (total x.s) x.counts) ((7, not x.inside) ∷ []) counted (required _ x.inside EntryPlace c.require.ensures))
