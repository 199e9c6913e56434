use native.Mathlib.Omega.{arith}
use Rattle.magnetar_matrix.proofs.Carried.{kept-words}
use borrow.Author.Rules.{rules}
use Rattle.magnetar_r1cs.proofs.r1cs.bit_part.Goals as goal

pub returns : goal.returns
returns g c =
    kept-words _ c.args.out.now _ c.requires (search rules) c.add_bits.ensures (λ i. omega (arith, c.type_inv.out i))
