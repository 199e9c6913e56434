use Rattle.std.specs.List.{slice_split}
use Rattle.magnetar_replay.specs.Replay.{is_break, without_last_break, lines_behind}
use Rattle.magnetar_replay.proofs.ReplayLaws.{goes-on}
use Rattle.magnetar_replay.proofs.replay.replay.Goals as goal

pub loop-rest-preserved : goal.loop-rest-preserved
loop-rest-preserved g c =
    goes-on g.Q.Queries.answers c.args.queries.now (slice_split is_break (without_last_break c.args.input.now)) _ c.loop-rest.queries
    c.first_line.result.0.now (slice_split is_break c.in-Some.lines.now) (lines_behind c.first_line.result.1) c.answer_line.new.queries _ _
    c.first_line.ensures.lines (rw c.in-Some.is at c.loop-rest.invariant) c.in_ok-answer_line.ensures
