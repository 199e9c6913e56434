use Rattle.std.proofs.Common.{rules}
use Rattle.std.proofs.Output.{has_written_of_eq}
use Rattle.magnetar_replay.proofs.TextLaws.{element_written}
use Rattle.magnetar_replay.proofs.show.ElementDisplay.fmt.Goals as goal

pub returns-clause-writes : goal.returns-clause-writes
returns-clause-writes g c = λ plain ok.
    has_written_of_eq _ _ _ _ _ (element_written c.args.self.now.0.lo c.args.self.now.0.hi (search rules)) (search rules)
