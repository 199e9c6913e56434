use Prim.Native.Nat.{◌/◌}
use mathlib.Core.Path.{◌∙◌}
use Rattle.magnetar_layout.specs.Tests.{layout_tests}
use Rattle.magnetar_layout.proofs.Laid.{layout-own}
use Rattle.magnetar_layout.proofs.Passing.{out-front, late}
use Rattle.magnetar_protocol.specs.RunTests.{run_tests}
use Rattle.magnetar_protocol.proofs.Guards.{counts-given}
use Rattle.magnetar_protocol.proofs.refusal.outline_refusal.Goals as goal

pub returns-in_err-run_refusal : goal.returns-in_err-run_refusal
returns-in_err-run_refusal c =
    let x = c.args in
    out-front (run_tests x.m x.q x.rb x.rf) (layout_tests (x.m / 2) x.lens.now) _ _ c.from_residual.ensures.1 c.in_err-run_refusal.ensures

pub returns : goal.returns
returns c =
    let x = c.args in
    let g = counts-given x.m x.q x.rb x.rf c.in_ok-run_refusal.ensures in
    late (run_tests x.m x.q x.rb x.rf) (layout_tests (x.m / 2) x.lens.now) c.in_ok-run_refusal.ensures
    (c.refusal.ensures ∙ layout-own x.m x.lens.now g.size)
