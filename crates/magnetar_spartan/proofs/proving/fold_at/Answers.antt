use mathlib.Core.Path.{◌∙◌}
use Rattle.magnetar_spartan.proofs.FoldLaws.{fold-ends}
use Rattle.magnetar_spartan.proofs.proving.fold_at.Goals as goal

pub returns-then-w-s : goal.returns-then-w-s
returns-then-w-s c =
    let x = c.args in
    let p = c.login_point in
    λ F. fold-ends x.q x.w x.n x.k x.packed.now x.x.now x.draws.now x.s.now p.new.out _
    (p.auto.out ∙ c.requires.2) p.ensures c.fold_packed_in-done.ensures.folded F _ c.fold_public_in-also.ensures.folded
