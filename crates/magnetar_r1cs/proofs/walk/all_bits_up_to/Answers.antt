use mathlib.Core.Path.{sym, ◌∙◌}
use native.Mathlib.Omega.{arith}
use Rattle.magnetar_r1cs.proofs.Walks.{passed, failed, all-passed}
use Rattle.magnetar_r1cs.proofs.walk.all_bits_up_to.Goals as goal

pub returns-then-not-is_bit_up_to : goal.returns-then-not-is_bit_up_to
returns-then-not-is_bit_up_to g c =
    failed (g.E.Entries.numbers c.args.es.now) c.loop-i.i _ c.loop-i.invariant c.at.result (omega arith) c.at.ensures
    (sym c.is_bit_up_to.ensures ∙ c.if-not-is_bit_up_to.true)

pub loop-i-preserved : goal.loop-i-preserved
loop-i-preserved g c =
    passed (g.E.Entries.numbers c.args.es.now) c.loop-i.i _ c.loop-i.invariant c.at.result (omega arith) c.at.ensures
    (sym c.is_bit_up_to.ensures ∙ c.if-not-is_bit_up_to.false)

pub returns : goal.returns
returns g c = all-passed (g.E.Entries.numbers c.args.es.now) c.loop-i.i _ c.loop-i.invariant (omega arith)
