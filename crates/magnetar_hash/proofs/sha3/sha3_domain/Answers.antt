use Rattle.std.proofs.Common.{sym, ◌∙◌, rules, eqb-true}
use Rattle.magnetar_hash.specs.Parts.{domain_answer, parts}
use Rattle.magnetar_hash.proofs.Parts.{domain-of}
use Rattle.magnetar_hash.proofs.Tests.{met, unmet}
use Rattle.magnetar_hash.proofs.sha3.sha3_domain.Goals as goal

pub serialize_parts-requires : goal.serialize_parts-requires
serialize_parts-requires c =
    let m = met _ _ _ _ _ c.require.ensures c.in_ok-require.was in
    (search rules, eqb-true _ _ (sym c.add_up.ensures ∙ m.0))

pub returns-in_err-require : goal.returns-in_err-require
unfolding domain_answer
returns-in_err-require c =
    let u = unmet _ _ _ _ _ _ c.require.ensures c.in_err-require.was c.from_residual.ensures.1 in
    rw (u.1, sym c.add_up.ensures ∙ u.0)

pub returns : goal.returns
unfolding domain_answer
returns c =
    let a = c.args in
    let m = met _ _ _ _ _ c.require.ensures c.in_ok-require.was in
    let f = rw c.empty-sponge.ensures at c.serialize_parts.ensures in
    rw (
      sym c.add_up.ensures ∙ m.0,
      c.finish.ensures,
      domain-of (parts a.lens.now a.bytes.now) f,
    )
