use Rattle.std.proofs.Common.{◌-◌, arith, rules}
use Rattle.magnetar_field.proofs.Shift.{shifted-two}
use Rattle.magnetar_field.proofs.gf128.shl.Goals as goal

pub returns : goal.returns
returns c =
    let x = c.args in
    shifted-two (64 - x.k) x.k (omega arith) x.h.hi x.h.lo (search rules)
