use lib.Seq.{take_all}
use Rattle.magnetar_field.specs.Gf128.{value}
use mathlib.Core.Path.{refl, ◌∙◌}
use native.Mathlib.Omega.{arith}
use Prim.Native.Nat.{◌-◌}
use lib.ListN.{length, take, drop, length-take, length-drop}
use Rattle.magnetar_verifier.proofs.EqParts.{eq-parts}
use borrow.Author.Rules.{rules}
use Rattle.magnetar_verifier.proofs.outer.eq_of.Goals as goal

pub slice_bounds-eq_at-end : goal.slice_bounds-eq_at-end
slice_bounds-eq_at-end c = rw length-take (omega arith)

pub eq_at-low-requires : goal.eq_at-low-requires
eq_at-low-requires c = (rw length-take (omega arith), rw length-take (omega arith), omega arith)

pub eq_at-high-requires : goal.eq_at-high-requires
eq_at-high-requires c = (
  simp (length-take, length-drop) (omega arith),
  simp (length-take, length-drop) (omega arith),
  simp (length-take, length-drop) (omega arith),
)

pub returns : goal.returns
returns c =
    let x = c.args in
    c.mul.ensures ∙ eq-parts x.tau.now (take (length x.rows.now) x.tau.now)
    (take (length x.tau.now - length x.rows.now) (drop (length x.rows.now) x.tau.now)) x.rows.now x.shared.now (value
    c.eq_at-low.result) (value c.eq_at-high.result)
    (search rules) (search rules) (search rules) refl (take_all (length x.tau.now - length x.rows.now) (drop (length x.rows.now) x.tau.now)
    (rw length-drop (omega arith))) c.eq_at-low.ensures c.eq_at-high.ensures
