use mathlib.Core.List.{◌++◌}
use Prim.Native.Nat.{◌*◌}
use Rattle.magnetar_layout.specs.Tests.{Tests, size_tests, packed_tests_of, public_tests_of, rows_tests}
use Rattle.magnetar_layout.proofs.Passing.{out-front, late}
use Rattle.magnetar_r1cs.proofs.Lone.{small_of}
use Rattle.magnetar_r1cs.proofs.r1cs.logins_refusal.Goals as goal

pub returns-in_err-size_refusal : goal.returns-in_err-size_refusal
returns-in_err-size_refusal c =
    let x = c.args in
    out-front (size_tests (2 * x.w) x.q) (packed_tests_of x.w x.q x.packed ++ (public_tests_of (2 * x.w) x.q x.x ++ rows_tests x.q x.n)) _ _
    c.from_residual.ensures.1 c.in_err-size_refusal.ensures

pub packed_refusal-requires : goal.packed_refusal-requires
packed_refusal-requires c = let s = small_of c.args.q c.args.w c.in_ok-size_refusal.ensures in (s.half, s.logins)

pub returns-in_err-packed_refusal : goal.returns-in_err-packed_refusal
returns-in_err-packed_refusal c =
    let x = c.args in
    let k : Tests = public_tests_of (2 * x.w) x.q x.x ++ rows_tests x.q x.n in
    let p : Tests = packed_tests_of x.w x.q x.packed in
    late (size_tests (2 * x.w) x.q) (p ++ k) c.in_ok-size_refusal.ensures
    (out-front p k _ _ c.from_residual-in_err-packed_refusal.ensures.1 c.in_err-packed_refusal.ensures)

pub public_refusal-requires : goal.public_refusal-requires
public_refusal-requires c = let s = small_of c.args.q c.args.w c.in_ok-size_refusal.ensures in (s.least, s.half, s.logins)

pub returns-in_err-public_refusal : goal.returns-in_err-public_refusal
returns-in_err-public_refusal c =
    let x = c.args in
    let p : Tests = packed_tests_of x.w x.q x.packed in
    let u : Tests = public_tests_of (2 * x.w) x.q x.x in
    let k : Tests = rows_tests x.q x.n in
    late (size_tests (2 * x.w) x.q) (p ++ (u ++ k)) c.in_ok-size_refusal.ensures
    (late p (u ++ k) c.in_ok-packed_refusal.ensures
    (out-front u k _ _ c.from_residual-in_err-public_refusal.ensures.1 c.in_err-public_refusal.ensures))

pub rows_refusal-requires : goal.rows_refusal-requires
rows_refusal-requires c = (small_of c.args.q c.args.w c.in_ok-size_refusal.ensures).logins

pub returns : goal.returns
returns c =
    let x = c.args in
    let p : Tests = packed_tests_of x.w x.q x.packed in
    let u : Tests = public_tests_of (2 * x.w) x.q x.x in
    let k : Tests = rows_tests x.q x.n in
    late (size_tests (2 * x.w) x.q) (p ++ (u ++ k)) c.in_ok-size_refusal.ensures
    (late p (u ++ k) c.in_ok-packed_refusal.ensures (late u k c.in_ok-public_refusal.ensures c.rows_refusal.ensures))
