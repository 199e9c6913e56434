use Rattle.std.proofs.Common.{◌≡◌, ◌%◌, sym, arith, rules}
use Rattle.magnetar_field.proofs.Mask.{masked, digit-mul}
use Rattle.magnetar_field.specs.Gf128.{value}
use Rattle.magnetar_field.proofs.gf128.mul_bit.Goals as goal

pub returns : goal.returns
returns c =
    let r = c.args.r in
    let m = c.wrapping_neg-mask.result in
    let bit = c.args.b.lo % 2 in
    let e : value c.args.b % 2 ≡ bit = omega arith in
    let low = masked r.lo m bit (omega arith) (search rules) (search rules) (omega arith) in
    let high = masked r.hi m bit (omega arith) (search rules) (search rules) (omega arith) in
    rw (e, low, high) (sym (digit-mul bit r.hi r.lo (omega arith)))
