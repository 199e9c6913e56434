use Rattle.magnetar_replay.specs.Words.{named_among, long_names}
use Rattle.magnetar_replay.proofs.WordLaws.{Named}
use Rattle.magnetar_replay.proofs.line.name.Given as goal

abbrev pub invariant-loop-long : goal.invariant-loop-long
invariant-loop-long l = Named l.long-items l.long-index l.letters (named_among long_names l.letters)
