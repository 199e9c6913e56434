use mathlib.Core.Path.{refl, ◌∙◌}
use Prim.Native.Nat.{◌*◌}
use Rattle.magnetar_verifier.proofs.EqNumbers.{behind}
use Rattle.magnetar_verifier.proofs.end.add_segment.Goals as goal

pub returns : goal.returns
returns c =
    let x = c.args in
    c.add.ensures ∙ rw (
      c.mul.ensures,
      c.eq_number-e.ensures,
      behind (2 * c.log2-a.result) c.log2-a.result x.low.now refl,
      c.log2-a.ensures.0,
    )
