use borrow.Author.Tests.{lt-leb, le-leb}
use native.Mathlib.Omega.{arith}
use Rattle.magnetar_r1cs.proofs.Walks.{passed, failed, all-passed}
use Rattle.magnetar_r1cs.proofs.walk.all_columns_up_to.Goals as goal

pub returns-then-at-w : goal.returns-then-at-w
returns-then-at-w g c =
    failed (g.E.Entries.numbers c.args.es.now) c.loop-i.i _ c.loop-i.invariant c.at.result (omega arith) c.at.ensures
    (lt-leb _ _ c.if-at-w.true)

pub loop-i-preserved : goal.loop-i-preserved
loop-i-preserved g c =
    passed (g.E.Entries.numbers c.args.es.now) c.loop-i.i _ c.loop-i.invariant c.at.result (omega arith) c.at.ensures
    (le-leb _ _ c.if-at-w.false)

pub returns : goal.returns
returns g c = all-passed (g.E.Entries.numbers c.args.es.now) c.loop-i.i _ c.loop-i.invariant (omega arith)
