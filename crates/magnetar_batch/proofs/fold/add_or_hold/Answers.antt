use Rattle.std.specs.Prelude.{◌≡◌, ℕ, List, take, drop}
use mathlib.Core.Path.{refl, sym, ap, ◌∙◌}
use native.Mathlib.Omega.{arith}
use lib.Seq.{length-take-le}
use Rattle.magnetar_field.specs.Gf128.{value}
use Rattle.magnetar_field.specs.Words.{elements}
use Rattle.magnetar_matrix.specs.Table.{raised}
use Rattle.magnetar_matrix.proofs.PublicParts.{repeated-is}
use Rattle.magnetar_batch.specs.Fold.{half_times}
use Rattle.magnetar_batch.proofs.Halves.{nothing-held}
use Rattle.magnetar_batch.proofs.fold.add_or_hold.Goals as goal

pub returns-then-repeats : goal.returns-then-repeats
returns-then-repeats c =
    let x = c.args in
    let e : take x.l (drop x.l x.x.now) ≡ take x.l x.x.now = repeated-is x.l x.x.now (sym c.repeats.ensures ∙ c.if-repeats.true) in
    record { held = ap (λ (y : List ℕ). raised (half_times (elements y) (value x.e)) (elements x.s.now)) e; last = λ h. absurd (omega (arith, h)) }

pub slice_bounds-add_half-end : goal.slice_bounds-add_half-end
slice_bounds-add_half-end c = sym (length-take-le _ _ c.requires)

pub returns : goal.returns
returns c = record { held = nothing-held _ _ 0 refl ∙ c.add_half.ensures; last = λ _. refl }
