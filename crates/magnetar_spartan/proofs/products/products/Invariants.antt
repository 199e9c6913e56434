use mathlib.Core.List.{[]}
use Rattle.magnetar_relation.specs.Rules.{rules_by}
use Rattle.magnetar_spartan.proofs.ProductLaws.{Made}
use Rattle.magnetar_spartan.proofs.products.products.Given as goal

abbrev pub invariant-loop-k : goal.invariant-loop-k
invariant-loop-k g l =
    Made (rules_by l.m l.q [] l.sh (g.E.Entries.numbers l.es)) l.packed l.x l.k-items l.k-index l.initial.s l.s
