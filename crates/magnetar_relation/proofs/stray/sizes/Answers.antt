use native.Mathlib.Omega.{arith}
use Rattle.magnetar_layout.proofs.SizeLaws.{sized}
use Rattle.magnetar_matrix.proofs.LoginParts.{product-most, words-most}
use Prim.Native.Nat.{◌≤◌}
use Rattle.magnetar_relation.proofs.stray.sizes.Goals as goal

pub overflow_mul-q : goal.overflow_mul-q
overflow_mul-q c =
    let w : c.args.w ≤ 32768 = grind (arith, sized) in
    let q : c.args.q ≤ 4096 = grind (arith, sized) in
    omega (arith, product-most c.args.q c.login_words.result q (rw c.login_words.ensures (words-most c.args.w w)))
