use mathlib.Core.Path.{ap, ◌∙◌}
use Prim.Native.Nat.{ℕ, ◌+◌}
use Rattle.magnetar_relation.specs.Steps.{cleared_to}
use Rattle.magnetar_spartan.proofs.Room.{cleared-most}
use borrow.Author.Rules.{rules}
use Rattle.magnetar_spartan.proofs.stages.clear.Goals as goal

pub returns : goal.returns
returns c =
    let x = c.args in
    c.clear_front.ensures ∙ (cleared-most 18446744073709551615 x.m c.max-rows.result x.q c.saturating_add.result c.saturating_add-n.result x.s.now
    c.saturating_add.ensures c.saturating_add-n.ensures (search rules) ∙ ap (λ (k : ℕ). cleared_to (x.m + k + x.q) x.s.now) c.max-rows.ensures)
