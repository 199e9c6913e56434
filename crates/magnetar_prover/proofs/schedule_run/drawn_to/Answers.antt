use mathlib.Core.Path.{refl}
use Rattle.magnetar_prover.proofs.Staging.{adds-element}
use borrow.Author.Rules.{rules}
use Rattle.magnetar_prover.proofs.schedule_run.drawn_to.Goals as goal

pub returns : goal.returns
returns c =
    let x = c.element-x in
    (refl, refl, refl, adds-element x.result _ x.ensures (search rules) c.write-a.ensures c.write-b.ensures)
