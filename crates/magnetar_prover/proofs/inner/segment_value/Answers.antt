use Prim.Native.Nat.{◌*◌, ◌+◌, ◌≤◌}
use Rattle.magnetar_prover.proofs.Segments.{columns-kept, local-point, segment-sum}
use lib.ListN.{get_or, length}
use Rattle.magnetar_prover.proofs.EqTablePlaced.{eq-built}
use mathlib.Core.Path.{◌∙◌, refl}
use native.Mathlib.Omega.{arith}
use Rattle.magnetar_prover.proofs.inner.segment_value.Goals as goal

pub returns : goal.returns
returns c =
    let g = c.log2-k in
    let x = c.args in
    let n = get_or x.lens.now x.i 0 in
    let h : 2 * x.w + 2 * n ≤ length x.s.now = omega (arith, c.requires.local.most) in
    let point = local-point x.w n g.result x.draws.now x.s.now g.ensures.0 c.requires.local (omega (arith, c.requires.local.most)) in
    let built = c.build-done.ensures.table ∙ eq-built _ _ point in record {
      value = c.segment_dot.ensures ∙ segment-sum x.w n g.result x.i x.lens.now x.draws.now x.s.now c.build-done.new.out g.ensures.0 refl
          c.requires.local h built;
      kept = columns-kept x.w n g.result x.i x.lens.now x.draws.now x.s.now c.build-done.new.out g.ensures.0 refl c.requires.local h built;
    }
