use Rattle.std.proofs.Common.{◌+◌, ◌-◌, ◌∙◌, sym, ap, arith}
use Rattle.magnetar_replay.specs.Lists.{list_at}
use Rattle.magnetar_replay.proofs.WordLaws.{list-more, list-here}
use Rattle.magnetar_replay.proofs.line.list.Goals as goal

pub loop-preserved : goal.loop-preserved
loop-preserved c =
    ap (λ l. list_at l (c.args.k - (c.loop.counter + 1))) c.split_list.ensures.behind
    ∙ sym (list-more c.loop.rest.now c.args.k c.loop.counter (omega arith)) ∙ c.loop.invariant

pub returns : goal.returns
returns c = c.split_list-2.ensures.front ∙ list-here c.loop.rest.now c.args.k c.loop.counter (omega arith) ∙ c.loop.invariant
