use Rattle.std.specs.Prelude.{ℕ, replicate}
use mathlib.Core.Path.{refl, ap, ◌∙◌}
use native.Mathlib.Omega.{arith}
use Rattle.magnetar_field.proofs.Elements.{elements-length, elements-below}
use Rattle.magnetar_multilinear.proofs.Evaluating.{evaluating-start, evaluating-end}
use Rattle.magnetar_batch.proofs.ValueWalk.{bound-more, lower-room, half_room}
use Rattle.magnetar_batch.proofs.value.bind_all.Goals as goal

pub loop-j-init : goal.loop-j-init
loop-j-init c =
    let g = c.requires in (
      (λ i. omega (arith, c.type_inv.t i)),
      evaluating-start _ _ _ _ (rw elements-length (omega (arith, g.1))) (rw elements-length (omega (arith, g.2))) refl,
    )

pub bind_highest-requires : goal.bind_highest-requires
bind_highest-requires c = (omega arith, lower-room c.loop-j.j c.args.n _ c.loop-j-test.true (omega arith) (omega arith))

pub loop-j-preserved : goal.loop-j-preserved
loop-j-preserved c =
    let l = c.loop-j in (
      (λ i. omega (arith, c.type_inv.t i)),
      bound-more _ _ _ _ l.j l.invariant.1 c.loop-j-test.true (rw elements-length (omega arith))
          (rw elements-length (half_room l.j c.args.n _ (omega arith) (omega arith))) (c.bind_highest.ensures ∙ rw c.get.ensures),
    )

pub returns : goal.returns
returns c =
    let l = c.loop-j in (
      c.get-v.ensures ∙ evaluating-end _ _ _ _ _ (elements-below l.t l.invariant.0 0) c.loop-j-test.false l.invariant.1,
      c.clear.ensures ∙ ap (λ (n : ℕ). replicate n 0) (omega arith),
    )
