use Rattle.std.proofs.Common.{sym}
use Rattle.magnetar_field.proofs.Log2.{power-past}
use Rattle.magnetar_field.proofs.sizes.power_of_two.Goals as goal

pub returns-else-k-lt64 : goal.returns-else-k-lt64
returns-else-k-lt64 c = sym (power-past c.args.k c.if-k-lt64.false)
