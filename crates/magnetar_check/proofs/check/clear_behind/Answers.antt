use native.Mathlib.Omega.{arith}
use Rattle.magnetar_relation.proofs.StepLaws.{behind-some, behind-none}
use Rattle.magnetar_check.proofs.check.clear_behind.Goals as goal

pub returns-then-m-s : goal.returns-then-m-s
returns-then-m-s c = behind-some _ _ _ _ (omega arith) c.clear_front.ensures

pub returns-else-m-s : goal.returns-else-m-s
returns-else-m-s c = let x = c.args in behind-none x.m _ x.s.now (omega arith)
