use mathlib.Core.Path.{◌≡◌, ap, ◌∙◌}
use Rattle.magnetar_protocol.specs.declared.rounds.Rounds.{Rounds}
use Rattle.magnetar_spartan.specs.Proving.{login_at}
use Rattle.magnetar_spartan.proofs.FoldLaws.{fold-left}
use Rattle.magnetar_spartan.proofs.proving.fold_behind.Goals as goal

pub returns : goal.returns
returns c =
    let x = c.args in
    let r = c.of-rounds in
    let e : c.taus.result ≡ login_at x.q x.sh.bin.a.rows x.sh.fld.a.rows = c.taus.ensures ∙ rw r.ensures.rounds in
    fold-left x.q _ r.result.shared c.min-n.result c.taus.result (login_at x.q x.sh.bin.a.rows x.sh.fld.a.rows) x.packed.now x.x.now x.d.now x.s.now _
    (ap (λ (y : Rounds). y.shared) r.ensures.rounds) c.min-n.ensures e c.fold_at.ensures
