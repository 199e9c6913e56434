use Rattle.std.proofs.Common.{◌^◌, ◌-◌, min, sum, ap, ◌∙◌}
use Rattle.std.proofs.lemmas.Iterator.{YieldsList-from_slice, YieldsList-from_take}
use Rattle.std.proofs.lemmas.Iterator.Consumers.{YieldsList-at}
use Rattle.magnetar_replay.proofs.WordLaws.{all-items}
use Rattle.magnetar_replay.proofs.line.total.Goals as goal

pub returns : goal.returns
returns c =
    let all = all-items c.loop-size.yielded c.loop-size.size-iterator c.next.result c.next.new.self c.loop-size.yielded_by c.in-None.is c.next.ensures.steps
    (YieldsList-at c.into_iter-size-iterator.ensures.into_iter_gives
    (YieldsList-from_take c.args.n (YieldsList-at c.take-size-items.ensures.source (YieldsList-from_slice c.args.sizes.now c.iter.ensures.rest))
    c.take-size-items.ensures.count)) in
    c.loop-size.invariant ∙ ap (λ l. min (sum l) (2 ^ 64 - 1)) all
