use mathlib.Core.Path.{◌≡◌}
use mathlib.Core.List.{[]}
use native.Mathlib.Omega.{arith}
use Rattle.std.proofs.Common.{add-one}
use Rattle.magnetar_relation.specs.Rules.{rules_by}
use Rattle.magnetar_spartan.proofs.ProductLaws.{all-made}
use Rattle.magnetar_spartan.proofs.products.products.Goals as goal

pub loop-k-preserved : goal.loop-k-preserved
loop-k-preserved g c = rw add-one (c.loop-k.s, (c.loop-k.invariant, c.product.ensures))

pub returns : goal.returns
returns g c =
    let x = c.args in
    let e : c.loop-k.k-index ≡ 6 = omega (arith, c.loop-k-test.false, c.loop-k.auto.k-index-end) in
    all-made (rules_by x.m x.q [] x.sh (g.E.Entries.numbers x.es.now)) x.packed.now x.x.now x.s.now c.loop-k.s (rw e at c.loop-k.invariant)
