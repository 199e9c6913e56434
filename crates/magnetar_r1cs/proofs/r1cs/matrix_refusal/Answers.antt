use mathlib.Core.List.{◌++◌}
use Prim.Native.Nat.{◌*◌}
use lib.ListN.{length}
use Rattle.magnetar_layout.specs.Tests.{Tests, size_tests, packed_tests_of, rows_tests, matrix_column_tests, counted, placed}
use Rattle.magnetar_layout.proofs.Passing.{out-front, late}
use Rattle.magnetar_matrix.specs.Lent.{Lent}
use Rattle.magnetar_matrix.specs.Numbers.{lent_by}
use Rattle.magnetar_r1cs.proofs.Lone.{small_of}
use Rattle.magnetar_r1cs.proofs.r1cs.matrix_refusal.Goals as goal

pub returns-in_err-size_refusal : goal.returns-in_err-size_refusal
returns-in_err-size_refusal g c =
    let x = c.args in
    let a : Lent = lent_by x.rows x.cols (g.E.Entries.numbers x.es.now) in
    let k : Tests = matrix_column_tests (2 * x.w) x.cols ++ (counted a ++ placed a) in
    out-front (size_tests (2 * x.w) x.q) (packed_tests_of x.w x.q (length x.packed.now) ++ (rows_tests x.q x.rows ++ k)) _ _
    c.from_residual.ensures.1 c.in_err-size_refusal.ensures

pub packed_refusal-requires : goal.packed_refusal-requires
packed_refusal-requires g c = let s = small_of c.args.q c.args.w c.in_ok-size_refusal.ensures in (s.half, s.logins)

pub returns-in_err-packed_refusal : goal.returns-in_err-packed_refusal
returns-in_err-packed_refusal g c =
    let x = c.args in
    let a : Lent = lent_by x.rows x.cols (g.E.Entries.numbers x.es.now) in
    let k : Tests = matrix_column_tests (2 * x.w) x.cols ++ (counted a ++ placed a) in
    let p : Tests = packed_tests_of x.w x.q (length x.packed.now) in
    late (size_tests (2 * x.w) x.q) (p ++ (rows_tests x.q x.rows ++ k)) c.in_ok-size_refusal.ensures
    (out-front p (rows_tests x.q x.rows ++ k) _ _ c.from_residual-in_err-packed_refusal.ensures.1 c.in_err-packed_refusal.ensures)

pub rows_refusal-requires : goal.rows_refusal-requires
rows_refusal-requires g c = (small_of c.args.q c.args.w c.in_ok-size_refusal.ensures).logins

pub returns-in_err-rows_refusal : goal.returns-in_err-rows_refusal
returns-in_err-rows_refusal g c =
    let x = c.args in
    let a : Lent = lent_by x.rows x.cols (g.E.Entries.numbers x.es.now) in
    let k : Tests = matrix_column_tests (2 * x.w) x.cols ++ (counted a ++ placed a) in
    let p : Tests = packed_tests_of x.w x.q (length x.packed.now) in
    late (size_tests (2 * x.w) x.q) (p ++ (rows_tests x.q x.rows ++ k)) c.in_ok-size_refusal.ensures
    (late p (rows_tests x.q x.rows ++ k) c.in_ok-packed_refusal.ensures
    (out-front (rows_tests x.q x.rows) k _ _ c.from_residual-in_err-rows_refusal.ensures.1 c.in_err-rows_refusal.ensures))

pub shape_refusal-requires : goal.shape_refusal-requires
shape_refusal-requires g c = (small_of c.args.q c.args.w c.in_ok-size_refusal.ensures).half

pub returns : goal.returns
returns g c =
    let x = c.args in
    let a : Lent = lent_by x.rows x.cols (g.E.Entries.numbers x.es.now) in
    let k : Tests = matrix_column_tests (2 * x.w) x.cols ++ (counted a ++ placed a) in
    let p : Tests = packed_tests_of x.w x.q (length x.packed.now) in
    late (size_tests (2 * x.w) x.q) (p ++ (rows_tests x.q x.rows ++ k)) c.in_ok-size_refusal.ensures
    (late p (rows_tests x.q x.rows ++ k) c.in_ok-packed_refusal.ensures
    (late (rows_tests x.q x.rows) k c.in_ok-rows_refusal.ensures c.shape_refusal.ensures))
