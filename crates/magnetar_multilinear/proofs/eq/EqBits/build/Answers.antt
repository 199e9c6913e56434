use mathlib.Core.Path.{◌≡◌, sym, ap, ap₂, ◌∙◌}
use mathlib.Core.List.{List, ◌++◌}
use Prim.Native.Nat.{ℕ, ◌≤◌}
use native.Mathlib.Omega.{arith}
use lib.ListN.{length, drop}
use lib.Seq.{length-take-le}
use Rattle.magnetar_field.specs.Words.{elements, words}
use Rattle.magnetar_field.proofs.Elements.{words-elements}
use Rattle.magnetar_multilinear.proofs.Refusals.{eq-none}
use Rattle.magnetar_multilinear.proofs.eq.EqBits.build.Goals as goal

pub returns-clause-table : goal.returns-clause-table
returns-clause-table c =
    let x = c.args in
    let need = c.table_words-need.result in
    let w = c.fill.new.out in
    let room : need ≤ length x.out.now = grind (arith) in
    let e = eq-none x.point.now x.out.now (grind (arith)) (grind (arith)) (omega arith) in
    let size : length w ≡ need = c.fill.auto.out ∙ length-take-le need x.out.now (omega arith) in
    let front : words (elements w) ≡ w = words-elements w (drop need x.out.now) (omega arith) (λ i. omega (arith, c.type_inv.out i)) in
    rw e (ap₂ (λ (a b : List ℕ). a ++ b) (sym front ∙ ap words c.fill.ensures) (ap (λ (k : ℕ). drop k x.out.now) c.table_words-need.ensures))
