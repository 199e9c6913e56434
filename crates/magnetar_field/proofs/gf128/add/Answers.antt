use Rattle.std.proofs.Common.{sym, rules}
use lib.Bits.{xor_block}
use Rattle.magnetar_field.specs.Gf128.{◌⊕◌}
use Rattle.magnetar_field.proofs.gf128.add.Goals as goal

pub returns : goal.returns
unfolding ◌⊕◌
returns c =
    let x = c.args in
    sym (xor_block 64 x.a.hi x.b.hi x.a.lo x.b.lo (search rules) (search rules))
