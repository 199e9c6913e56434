use Prim.Native.Nat.{◌*◌, ◌≤◌}
use Rattle.magnetar_prover.proofs.Bound.{eq-behind, eq-dropped, eq-rest}
use lib.ListN.{length}
use mathlib.Core.Path.{◌∙◌}
use native.Mathlib.Omega.{arith}
use Rattle.magnetar_prover.proofs.outer.Turn.message.Goals as goal

pub returns : goal.returns
returns c = let x = c.args in
    let p = c.requires in
    let h : x.self.n ≤ length x.s.now = omega arith in
    let f = eq-behind x.s.now x.self.n x.self.v p.table h c.drop_var-done.new.table c.drop_var-done.ensures.dropped in
    let g = eq-dropped x.s.now x.self.n x.self.v p.table h c.drop_var-done.new.table c.drop_var-done.ensures.dropped in record {
      written = c.put_message.ensures ∙ rw (
        g,
        f x.self.w x.self.n (omega arith),
        f (2 * x.self.w) x.self.n (omega arith),
        f (3 * x.self.w) x.self.n
            (omega arith),
      );
      dropped = record {
        dropped = g;
        kept = eq-rest x.s.now x.self.n x.self.v p.table h c.drop_var-done.new.table c.drop_var-done.ensures.dropped
            x.self.w (omega arith);
      };
    }
