use native.Mathlib.Omega.{arith}
use Rattle.magnetar_relation.proofs.StepLaws.{cleared-none}
use Rattle.magnetar_check.proofs.check.clear_room.Goals as goal

pub returns-else-n-s : goal.returns-else-n-s
returns-else-n-s c = cleared-none _ c.args.s.now (omega arith)
