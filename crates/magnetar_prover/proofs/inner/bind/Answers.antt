use Prim.Native.Nat.{◌+◌, ◌*◌, ◌≤◌}
use native.Mathlib.Omega.{arith}
use lib.ListN.{length}
use Rattle.magnetar_field.specs.Gf128.{value}
use Rattle.magnetar_prover.proofs.Bound.{two-bound}
use Rattle.magnetar_prover.proofs.inner.bind.Goals as goal

pub returns : goal.returns
returns c =
    let x = c.args in
    let h : 2 * x.m + x.n ≤ length x.s.now = omega arith in
    let g : x.n ≤ 2 * x.m = omega arith in let all = two-bound x.s.now (2 * x.m) x.n (value x.r) c.requires.table_2 h g _ _
    c.bind_var-done.ensures.bound c.bind_var-also.ensures.bound in
    record { table = all.0; z = all.1 }
