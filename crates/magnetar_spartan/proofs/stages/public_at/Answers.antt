use mathlib.Core.Path.{sym, ap, ◌∙◌}
use Prim.Native.Nat.{ℕ, ◌*◌}
use Rattle.magnetar_field.proofs.Tabulation.{tabulate-length}
use Rattle.magnetar_spartan.specs.Stages.{drawn_back}
use Rattle.magnetar_spartan.proofs.PublicValue.{same_point}
use Rattle.magnetar_spartan.proofs.stages.public_at.Goals as goal

pub returns : goal.returns
returns c =
    let x = c.args in
    let p = c.login_point in
    let g = same_point x.m x.q x.x.now p.new.out (drawn_back x.n x.k x.draws.now) x.y.now x.s.now
    (p.auto.out ∙ (c.requires.2 ∙ ap (λ (i : ℕ). 2 * i) (sym (tabulate-length _ x.n)))) p.ensures in
    (c.public_value.ensures.0 ∙ g.0, c.public_value.ensures.1 ∙ g.1)
