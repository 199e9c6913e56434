use Rattle.std.specs.List.{slice_split}
use Rattle.magnetar_replay.specs.Replay.{is_break, without_last_break, lines_behind}
use Rattle.magnetar_replay.proofs.ReplayLaws.{Replaying, size_left}
use Rattle.magnetar_replay.proofs.replay.replay.Given as goal

abbrev pub invariant-loop-rest : goal.invariant-loop-rest
invariant-loop-rest g l =
    Replaying g.Q.Queries.answers l.fn.queries (slice_split is_break (without_last_break l.fn.input)) (g.W.Write.contents l.fn.out)
    l.queries (lines_behind l.rest) (g.W.Write.contents l.out)

abbrev pub decreases-loop-rest : goal.decreases-loop-rest
decreases-loop-rest g l = size_left l.rest
