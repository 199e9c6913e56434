use Rattle.std.proofs.Common.{zero-add, rules}
use Rattle.magnetar_field.proofs.Reduction.{times_x-words}
use Rattle.magnetar_field.proofs.gf128.times_x.Goals as goal

pub returns : goal.returns
returns c =
    let x = c.args.a in
    rw (c.add.ensures, c.shl.ensures, zero-add) (times_x-words x.hi x.lo (search rules) (search rules))
