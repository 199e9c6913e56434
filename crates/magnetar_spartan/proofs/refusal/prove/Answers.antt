use mathlib.Core.Path.{sym}
use mathlib.Core.List.{◌++◌}
use Prim.Native.Nat.{◌/◌, ◌≤◌}
use native.Mathlib.Omega.{arith}
use lib.ListN.{length}
use Rattle.magnetar_layout.specs.Tests.{Tests, size_tests, packed_tests_of, public_tests_of}
use Rattle.magnetar_field.specs.declared.refusal.Refusal.TheVariants.{PackedWords}
use Rattle.magnetar_relation.specs.Rules.{Rules}
use Rattle.magnetar_relation.specs.Rules.{rules_by}
use Rattle.magnetar_spartan.specs.Refusals.{rules_tests, sizes_only_of}
use Rattle.magnetar_spartan.specs.Numbers.{prove_lent_tests}
use Rattle.magnetar_spartan.proofs.Chains.{login-most, product-most}
use Rattle.magnetar_layout.proofs.Passing.{out-front, late, required}
use Rattle.magnetar_spartan.proofs.ByNumbers.{sizes-of, outlined}
use Rattle.magnetar_spartan.specs.Outcome.{prove_refusal}
use Rattle.magnetar_spartan.proofs.refusal.prove.Goals as goal

pub returns-in_err-size_refusal : goal.returns-in_err-size_refusal
unfolding prove_refusal
returns-in_err-size_refusal g c =
    let x = c.args in
    let R : Rules = rules_by x.m x.q x.lens.now x.sh (g.E.Entries.numbers x.es.now) in
    let lent : Tests =
    prove_lent_tests (sizes_only_of R) x.t.squeeze_ctr (length x.proof.now) (length x.claims.now) (length x.scratch.now) in
    let middle : Tests = public_tests_of x.m x.q (length x.x.now) ++ rules_tests R in
    let packed : Tests = packed_tests_of (x.m / 2) x.q (length x.packed.now) in
    out-front (size_tests x.m x.q) (packed ++ (middle ++ lent)) _ _ c.from_residual.ensures.1 c.in_err-size_refusal.ensures

pub overflow_mul-q : goal.overflow_mul-q
overflow_mul-q g c =
    let x = c.args in
    let z = sizes-of _ _ (sym c.in_ok-size_refusal.ensures) in
    let h : c.login_words.result ≤ 512 = rw c.login_words.ensures (login-most (x.m / 2) (omega (arith, z.columns.high))) in
    omega (arith, product-most x.q c.login_words.result z.logins.high h)

pub returns-in_err-require : goal.returns-in_err-require
unfolding prove_refusal
returns-in_err-require g c =
    let x = c.args in
    let R : Rules = rules_by x.m x.q x.lens.now x.sh (g.E.Entries.numbers x.es.now) in
    let lent : Tests =
    prove_lent_tests (sizes_only_of R) x.t.squeeze_ctr (length x.proof.now) (length x.claims.now) (length x.scratch.now) in
    let middle : Tests = public_tests_of x.m x.q (length x.x.now) ++ rules_tests R in
    let packed : Tests = packed_tests_of (x.m / 2) x.q (length x.packed.now) in
    late (size_tests x.m x.q) (packed ++ (middle ++ lent)) c.in_ok-size_refusal.ensures
    (out-front packed (middle ++ lent) _ _ c.from_residual-in_err-require.ensures.1
    (rw (c.in_err-require.was, c.login_words.ensures) at (required _ _ PackedWords c.require.ensures)))

pub returns-in_err-relation : goal.returns-in_err-relation
unfolding prove_refusal
returns-in_err-relation g c =
    let x = c.args in
    let R : Rules = rules_by x.m x.q x.lens.now x.sh (g.E.Entries.numbers x.es.now) in
    let lent : Tests =
    prove_lent_tests (sizes_only_of R) x.t.squeeze_ctr (length x.proof.now) (length x.claims.now) (length x.scratch.now) in
    let middle : Tests = public_tests_of x.m x.q (length x.x.now) ++ rules_tests R in
    let packed : Tests = packed_tests_of (x.m / 2) x.q (length x.packed.now) in
    late (size_tests x.m x.q) (packed ++ (middle ++ lent)) c.in_ok-size_refusal.ensures
    (late packed (middle ++ lent) (rw (c.in_ok-require.was, c.login_words.ensures) at (required _ _ PackedWords c.require.ensures))
    (out-front middle lent _ _ c.from_residual-in_err-relation.ensures.1 c.in_err-relation.ensures))

pub prove_lent-requires : goal.prove_lent-requires
prove_lent-requires g c =
    let x = c.args in
    let R : Rules = rules_by x.m x.q x.lens.now x.sh (g.E.Entries.numbers x.es.now) in
    outlined R (length x.x.now) c.in_ok-size_refusal.ensures c.in_ok-relation.ensures

pub returns : goal.returns
unfolding prove_refusal
returns g c =
    let x = c.args in
    let R : Rules = rules_by x.m x.q x.lens.now x.sh (g.E.Entries.numbers x.es.now) in
    let lent : Tests =
    prove_lent_tests (sizes_only_of R) x.t.squeeze_ctr (length x.proof.now) (length x.claims.now) (length x.scratch.now) in
    let middle : Tests = public_tests_of x.m x.q (length x.x.now) ++ rules_tests R in
    let packed : Tests = packed_tests_of (x.m / 2) x.q (length x.packed.now) in
    late (size_tests x.m x.q) (packed ++ (middle ++ lent)) c.in_ok-size_refusal.ensures
    (late packed (middle ++ lent) (rw (c.in_ok-require.was, c.login_words.ensures) at (required _ _ PackedWords c.require.ensures))
    (late middle lent c.in_ok-relation.ensures c.prove_lent.ensures))
