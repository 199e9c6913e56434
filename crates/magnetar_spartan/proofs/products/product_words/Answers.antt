use mathlib.Core.Path.{ap₂}
use Prim.Native.Nat.{ℕ, ◌*◌, ◌≤◌}
use native.Mathlib.Omega.{arith}
use Rattle.magnetar_matrix.proofs.Blocks.{product-fits}
use Rattle.magnetar_spartan.proofs.products.product_words.Goals as goal

pub returns : goal.returns
returns c =
    let small : c.min.result * c.min-2.result ≤ 536870912 =
    product-fits c.min.result c.min-2.result (omega (arith, c.min.ensures)) (omega (arith, c.min-2.ensures)) in
    (ap₂ (λ (i j : ℕ). 2 * (i * j)) c.min.ensures c.min-2.ensures, omega (arith, small))
