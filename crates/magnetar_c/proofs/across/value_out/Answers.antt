use mathlib.Core.Path.{ap, sym, ◌∙◌}
use Prim.Native.Nat.{◌<◌, ◌^◌}
use Rattle.std.specs.Prelude.{Result}
use Rattle.magnetar_field.specs.declared.gf128.Gf128.{Gf128}
use Rattle.magnetar_field.specs.declared.refusal.Refusal.{Refusal}
use Rattle.magnetar_multilinear.specs.Entries.{answer}
use Rattle.magnetar_c.specs.CStructs.{evaluated}
use Rattle.magnetar_c.proofs.Handed.{value-handed}
use borrow.Author.Rules.{rules}
use Rattle.magnetar_c.proofs.across.value_out.Goals as goal

pub returns-in-Ok : goal.returns-in-Ok
returns-in-Ok c =
    let l : c.in-Ok.e.lo < 2 ^ 64 = search rules in
    value-handed c.element_out.result l c.element_out.ensures ∙ sym (ap (λ (o : Result Gf128 Refusal). evaluated (answer o)) c.in-Ok.is)
