use mathlib.Core.List.{◌++◌}
use lib.ListN.{length}
use Rattle.magnetar_layout.specs.Tests.{Tests, size_tests, public_tests_of}
use Rattle.magnetar_relation.specs.Rules.{Rules}
use Rattle.magnetar_relation.specs.Rules.{rules_by}
use Rattle.magnetar_spartan.specs.Refusals.{rules_tests, sizes_only_of}
use Rattle.magnetar_spartan.specs.Numbers.{verify_lent_tests}
use Rattle.magnetar_layout.proofs.Passing.{out-front, late}
use Rattle.magnetar_spartan.proofs.ByNumbers.{outlined}
use Rattle.magnetar_spartan.specs.Outcome.{verify_refusal}
use Rattle.magnetar_spartan.proofs.refusal.verify.Goals as goal

pub returns-in_err-size_refusal : goal.returns-in_err-size_refusal
unfolding verify_refusal
returns-in_err-size_refusal g c =
    let x = c.args in
    let R : Rules = rules_by x.m x.q x.lens.now x.sh (g.E.Entries.numbers x.es.now) in
    let lent : Tests = verify_lent_tests (sizes_only_of R) (length x.proof.now) x.t.squeeze_ctr (length x.claims.now) (length x.scratch.now) in
    out-front (size_tests x.m x.q) ((public_tests_of x.m x.q
    (length x.x.now) ++ rules_tests R) ++ lent) _ _ c.from_residual.ensures.1 c.in_err-size_refusal.ensures

pub returns-in_err-relation : goal.returns-in_err-relation
unfolding verify_refusal
returns-in_err-relation g c =
    let x = c.args in
    let R : Rules = rules_by x.m x.q x.lens.now x.sh (g.E.Entries.numbers x.es.now) in
    let lent : Tests = verify_lent_tests (sizes_only_of R) (length x.proof.now) x.t.squeeze_ctr (length x.claims.now) (length x.scratch.now) in
    late (size_tests x.m x.q) ((public_tests_of x.m x.q (length x.x.now) ++ rules_tests R) ++ lent) c.in_ok-size_refusal.ensures
    (out-front (public_tests_of x.m x.q (length x.x.now) ++ rules_tests R) lent _ _ c.from_residual-in_err-relation.ensures.1 c.in_err-relation.ensures)

pub verify_lent-requires : goal.verify_lent-requires
verify_lent-requires g c =
    let x = c.args in
    let R : Rules = rules_by x.m x.q x.lens.now x.sh (g.E.Entries.numbers x.es.now) in
    outlined R (length x.x.now) c.in_ok-size_refusal.ensures c.in_ok-relation.ensures

pub returns : goal.returns
unfolding verify_refusal
returns g c =
    let x = c.args in
    let R : Rules = rules_by x.m x.q x.lens.now x.sh (g.E.Entries.numbers x.es.now) in
    let lent : Tests = verify_lent_tests (sizes_only_of R) (length x.proof.now) x.t.squeeze_ctr (length x.claims.now) (length x.scratch.now) in
    late (size_tests x.m x.q) ((public_tests_of x.m x.q (length x.x.now) ++ rules_tests R) ++ lent) c.in_ok-size_refusal.ensures
    (late (public_tests_of x.m x.q (length x.x.now) ++ rules_tests R) lent c.in_ok-relation.ensures c.verify_lent.ensures)
