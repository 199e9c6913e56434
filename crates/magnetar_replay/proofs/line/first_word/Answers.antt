use Rattle.std.proofs.Common.{rules, tests, arith}
use Rattle.std.proofs.lemmas.Iterator.Splits.{YieldsList-from_slice_split}
use Rattle.std.proofs.lemmas.List.Splits.{length-slice_split}
use Rattle.magnetar_replay.specs.Words.{is_space}
use Rattle.magnetar_replay.proofs.WordLaws.{first-item}
use Rattle.magnetar_replay.proofs.line.first_word.Goals as goal

pub returns : goal.returns
returns c =
    let first = first-item c.next.result c.next.new.self c.args.line c.next.ensures.steps
    (YieldsList-from_slice_split _ is_space c.args.line.now c.split.ensures.rest c.split.ensures.done c.split.ensures.closure
    (λ x r q k. search (rules, tests)))
    (omega (arith, length-slice_split is_space c.args.line.now)) in
    rw c.unwrap_or.ensures first
