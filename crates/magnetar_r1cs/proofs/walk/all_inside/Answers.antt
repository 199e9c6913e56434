use mathlib.Core.Path.{sym, ◌∙◌}
use native.Mathlib.Omega.{arith}
use Rattle.magnetar_r1cs.proofs.Walks.{passed, failed, all-passed}
use Rattle.magnetar_r1cs.proofs.walk.all_inside.Goals as goal

pub returns-then-not-lies_in : goal.returns-then-not-lies_in
returns-then-not-lies_in g c =
    failed (g.E.Entries.numbers c.args.es.now) c.loop-i.i _ c.loop-i.invariant c.at.result (omega arith) c.at.ensures
    (sym c.lies_in.ensures ∙ c.if-not-lies_in.true)

pub loop-i-preserved : goal.loop-i-preserved
loop-i-preserved g c =
    passed (g.E.Entries.numbers c.args.es.now) c.loop-i.i _ c.loop-i.invariant c.at.result (omega arith) c.at.ensures
    (sym c.lies_in.ensures ∙ c.if-not-lies_in.false)

pub returns : goal.returns
returns g c = all-passed (g.E.Entries.numbers c.args.es.now) c.loop-i.i _ c.loop-i.invariant (omega arith)
