use Rattle.std.proofs.Common.{arith, rules}
use Rattle.magnetar_field.proofs.Log2.{log₂-zero, log₂-only}
use Rattle.magnetar_field.proofs.sizes.log2.Goals as goal

pub returns-then-n-eq0 : goal.returns-then-n-eq0
returns-then-n-eq0 c = (rw (c.if-n-eq0.true, log₂-zero), omega arith)

pub returns-else-n-eq0 : goal.returns-else-n-eq0
returns-else-n-eq0 c =
    let l = c.ilog2.ensures in
    (log₂-only c.args.n c.ilog2.result (search rules) l.power_le l.next_power_gt, omega (arith, l.bound))
