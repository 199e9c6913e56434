use Prim.Native.Nat.{◌≤◌, ◌/◌, ◌-◌}
use native.Mathlib.Omega.{arith}
use Rattle.magnetar_layout.proofs.SizeLaws.{sized}
use Rattle.magnetar_matrix.proofs.LoginParts.{product-most, words-most}
use Rattle.magnetar_matrix.proofs.Blocks.{product-fits}
use Rattle.magnetar_check.proofs.check.sizes.Goals as goal

pub overflow_mul-q : goal.overflow_mul-q
overflow_mul-q c =
    let m : c.args.m ≤ 65536 = grind (arith, sized) in
    let q : c.args.q ≤ 4096 = grind (arith, sized) in
    omega (arith, product-most c.args.q c.login_words.result q (rw c.login_words.ensures (words-most (c.args.m / 2) (omega arith))))

pub overflow_mul-q-2 : goal.overflow_mul-q-2
overflow_mul-q-2 c =
    let m : c.args.m ≤ 65536 = grind (arith, sized) in
    let q : c.args.q ≤ 4096 = grind (arith, sized) in
    omega (arith, product-fits c.args.q (c.args.m - 2) q (omega arith))
