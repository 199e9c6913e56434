use Rattle.magnetar_relation.specs.Rules.{rules_by}
use Rattle.magnetar_digest.proofs.Ends.{digest-refused}
use Rattle.magnetar_digest.proofs.digest.relation_digest.Goals as goal

pub returns-in_err-check : goal.returns-in_err-check
returns-in_err-check g c =
    let x = c.args in
    digest-refused (rules_by x.m x.q x.lens.now x.sh (g.E.Entries.numbers x.es.now)) _ _ c.from_residual.ensures.1 c.in_err-check.ensures
