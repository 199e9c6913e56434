use Rattle.std.proofs.Common.{take, ◌∷◌, ap, sym, ◌∙◌, ◌+◌}
use Rattle.std.proofs.lemmas.List.Quantifiers.{position-Some}
use Rattle.std.specs.List.{slice_split}
use Rattle.magnetar_replay.specs.Replay.{is_break}
use Rattle.magnetar_replay.proofs.ReplayLaws.{parts-at, parts-none, rest-of}
use Rattle.magnetar_replay.proofs.replay.first_line.Goals as goal

pub returns-in-Some-clause-lines : goal.returns-in-Some-clause-lines
returns-in-Some-clause-lines c =
    let xs = c.args.lines.now in
    let end = c.in-Some.end in
    parts-at xs end (position-Some is_break xs end 0 (sym c.first_break.ensures ∙ c.in-Some.is))
    ∙ ap (λ r. take end xs ∷ slice_split is_break r) (sym (rest-of xs (end + 1)))

pub returns-in-None-clause-lines : goal.returns-in-None-clause-lines
returns-in-None-clause-lines c = parts-none c.args.lines.now (sym c.first_break.ensures ∙ c.in-None.is)
