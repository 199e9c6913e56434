use Prim.Native.Nat.{◌+◌, ◌*◌, ◌^◌}
use native.Mathlib.Omega.{arith}
use mathlib.Core.Path.{◌≡◌, ◌∙◌}
use Rattle.magnetar_matrix.proofs.Digits.{value-lt, ⊗-digit}
use borrow.Author.Rules.{rules}
use Rattle.magnetar_r1cs.proofs.walk.select.Goals as goal

pub returns : goal.returns
returns c =
    let x = c.args in
    let e : 0 * 2 ^ 64 + x.bit ≡ x.bit = omega arith in
    c.mul_bit.ensures ∙ rw e (⊗-digit x.bit _ c.requires (value-lt x.v.hi x.v.lo (search rules) (search rules)))
