use Prim.Native.Nat.{◌*◌, ◌≤◌}
use Rattle.magnetar_prover.proofs.Segments.{segment-is}
use Rattle.magnetar_prover.proofs.Slots.{part-is}
use lib.ListN.{length}
use native.Mathlib.Omega.{arith}
use Rattle.magnetar_prover.proofs.inner.segment_dot.Goals as goal

pub returns : goal.returns
returns c = let x = c.args in
    let p = c.requires in
    let h : 2 * x.w ≤ length x.s.now = omega arith in
    rw (c.dot.ensures, c.segment-part.ensures, segment-is x.w x.lens.now x.i x.s.now p.1 p.2 h, part-is x.s.now (2 * x.w) (2 * x.n))
