use Rattle.std.proofs.Common.{◌∙◌, sym, ap, map, rules, tests}
use Rattle.std.proofs.lemmas.Iterator.Adapters.{YieldsList-from_skip}
use Rattle.std.proofs.lemmas.Iterator.Consumers.{YieldsList-at}
use Rattle.std.proofs.lemmas.Iterator.Splits.{YieldsList-from_slice_split}
use Rattle.magnetar_replay.specs.Words.{is_space, spelled_number}
use Rattle.magnetar_replay.proofs.WordLaws.{all-items, map-map}
use Rattle.magnetar_replay.proofs.line.numbers.Goals as goal

pub returns : goal.returns
returns c =
    let all = all-items c.loop-word.yielded c.loop-word.word-iterator c.next.result c.next.new.self c.loop-word.yielded_by c.in-None.is
    c.next.ensures.steps
    (YieldsList-at c.into_iter-word-iterator.ensures.into_iter_gives
    (YieldsList-from_skip 1
    (YieldsList-at c.skip-word-items.ensures.source
    (YieldsList-from_slice_split _ is_space c.args.line.now c.split.ensures.rest c.split.ensures.done c.split.ensures.closure
    (λ x r q k. search (rules, tests))))
    c.skip-word-items.ensures.count)) in
    c.loop-word.invariant ∙ sym (map-map spelled_number _ c.loop-word.yielded) ∙ ap (map spelled_number) all
