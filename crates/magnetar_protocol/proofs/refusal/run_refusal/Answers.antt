use mathlib.Core.List.{◌++◌}
use Rattle.magnetar_layout.specs.Tests.{size_tests, rows_tests}
use Rattle.magnetar_layout.proofs.Passing.{out-front, late}
use Rattle.magnetar_protocol.proofs.Guards.{logins-given}
use Rattle.magnetar_protocol.proofs.refusal.run_refusal.Goals as goal

pub returns-in_err-size_refusal : goal.returns-in_err-size_refusal
returns-in_err-size_refusal c =
    let x = c.args in
    out-front (size_tests x.m x.q) (rows_tests x.q x.rb ++ rows_tests x.q x.rf) _ _ c.from_residual.ensures.1 c.in_err-size_refusal.ensures

pub rows_refusal-requires : goal.rows_refusal-requires
rows_refusal-requires c = (logins-given c.args.m c.args.q c.in_ok-size_refusal.ensures).logins.high

pub returns-in_err-rows_refusal : goal.returns-in_err-rows_refusal
returns-in_err-rows_refusal c =
    let x = c.args in
    late (size_tests x.m x.q) (rows_tests x.q x.rb ++ rows_tests x.q x.rf) c.in_ok-size_refusal.ensures
    (out-front (rows_tests x.q x.rb) (rows_tests x.q x.rf) _ _ c.from_residual-in_err-rows_refusal.ensures.1 c.in_err-rows_refusal.ensures)

pub rows_refusal-requires-2 : goal.rows_refusal-requires-2
rows_refusal-requires-2 c = (logins-given c.args.m c.args.q c.in_ok-size_refusal.ensures).logins.high

pub returns : goal.returns
returns c =
    let x = c.args in
    late (size_tests x.m x.q) (rows_tests x.q x.rb ++ rows_tests x.q x.rf) c.in_ok-size_refusal.ensures
    (late (rows_tests x.q x.rb) (rows_tests x.q x.rf) c.in_ok-rows_refusal.ensures c.rows_refusal-2.ensures)
