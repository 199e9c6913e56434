use mathlib.Core.Path.{ap, ◌∙◌}
use mathlib.Core.List.{[]}
use Rattle.magnetar_relation.specs.Rules.{Rules}
use Rattle.magnetar_relation.specs.Rules.{rules_by}
use Rattle.magnetar_spartan.specs.Products.{part_of}
use Rattle.magnetar_spartan.proofs.ProductLaws.{there}
use Rattle.magnetar_spartan.proofs.products.product.Goals as goal

pub returns-then-p-s : goal.returns-then-p-s
returns-then-p-s g c =
    let x = c.args in
    let R : Rules = rules_by x.m x.q [] x.sh (g.E.Entries.numbers x.es.now) in
    let e = c.part_of-h.ensures ∙ ap (part_of x.k x.q x.sh) c.len.ensures in
    λ ok. there x.k R x.packed.now x.x.now x.s.now ok _ e _ c.products_in-done.ensures.products
