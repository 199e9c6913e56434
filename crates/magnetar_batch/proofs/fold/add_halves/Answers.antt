use Rattle.std.specs.Prelude.{◌-◌, ◌*◌, ℕ}
use mathlib.Core.Path.{refl, ap, ◌∙◌}
use native.Mathlib.Omega.{arith}
use Rattle.magnetar_field.specs.Gf128.{value, ◌⊕◌}
use Rattle.magnetar_field.specs.Words.{elements}
use Rattle.magnetar_batch.proofs.Halves.{held_start, held_next, held-end}
use Rattle.magnetar_batch.proofs.fold.add_halves.Goals as goal

pub loop-u-init : goal.loop-u-init
loop-u-init c = let x = c.args in (λ _. refl, held_start x.w x.x.now (elements x.factors.now) (elements x.out.now) 0 refl)

pub loop-u-preserved : goal.loop-u-preserved
loop-u-preserved c =
    let x = c.args in
    let l = c.loop-u in
    let r = c.add_or_hold-e in (
      λ h. r.ensures.last (omega (arith, h)),
      held_next x.w x.x.now (elements x.factors.now) (elements x.out.now) (2 * x.w - 2) l.u (value l.e) _ _ (elements l.out) _ refl
          (c.add-f.ensures ∙ ap (λ (i : ℕ). value l.e ⊕ i) c.get.ensures) l.invariant.1 r.ensures.held,
    )

pub returns : goal.returns
returns c =
    let x = c.args in
    let l = c.loop-u in
    held-end x.w x.x.now (elements x.factors.now) (elements x.out.now) l.u x.q (value l.e) (elements l.out) (omega arith)
    (l.invariant.0 (omega arith)) l.invariant.1
