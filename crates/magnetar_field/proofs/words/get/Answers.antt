use Rattle.std.proofs.Common.{sym, arith}
use Rattle.magnetar_field.proofs.Elements.{elements-get, elements-out}
use Rattle.magnetar_field.proofs.words.get.Goals as goal

pub returns-then-i-s : goal.returns-then-i-s
returns-then-i-s c = let x = c.args in sym (elements-get x.s.now x.i (omega arith))

pub returns-else-i-s : goal.returns-else-i-s
returns-else-i-s c = let x = c.args in sym (elements-out x.s.now x.i (omega arith))
