use native.Mathlib.Omega.{arith}
use Rattle.magnetar_matrix.proofs.TableLaws.{cleared-raised}
use borrow.Author.Rules.{rules}
use Rattle.magnetar_r1cs.proofs.r1cs.product.Goals as goal

pub returns : goal.returns
returns g c =
    cleared-raised _ c.args.out.now _ _ c.requires (search rules) c.clear.ensures c.add_product.ensures (λ i. omega (arith, c.type_inv.out i))
