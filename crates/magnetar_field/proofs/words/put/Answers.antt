use Rattle.std.proofs.Common.{sym, arith, rules}
use Rattle.magnetar_field.proofs.Elements.{stored-in, stored-out}
use Rattle.magnetar_field.proofs.words.put.Goals as goal

pub returns-then-i-s : goal.returns-then-i-s
returns-then-i-s c = let x = c.args in sym (stored-in x.s.now x.i x.e.lo x.e.hi (omega arith) (search rules))

pub returns-else-i-s : goal.returns-else-i-s
returns-else-i-s c = let x = c.args in sym (stored-out x.s.now x.i _ (omega arith))
