use mathlib.Core.List.{[]}
use Rattle.magnetar_relation.proofs.RuleLaws.{rules-told}
use Rattle.magnetar_relation.proofs.rules.check.Goals as goal

pub returns : goal.returns
returns g c =
    let x = c.args in
    rules-told x.m x.q [] x.s (g.E.Entries.numbers x.es.now) c.all_inside.result _ c.all_inside.ensures (rw c.counts.ensures at c.refusal.ensures)
