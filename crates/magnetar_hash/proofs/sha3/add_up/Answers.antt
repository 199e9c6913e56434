use Rattle.std.proofs.Common.{arith}
use Rattle.magnetar_hash.proofs.Lengths.{used-more, used_over, used_all}
use Rattle.magnetar_hash.proofs.sha3.add_up.Goals as goal

pub returns-then-left-n : goal.returns-then-left-n
returns-then-left-n c = used_over c.loop-n.invariant (omega arith) c.if-left-n.true

pub loop-n-preserved : goal.loop-n-preserved
loop-n-preserved c = used-more c.loop-n.invariant (omega arith) (omega arith)

pub returns : goal.returns
returns c = used_all c.loop-n.invariant (omega arith)
