use mathlib.Core.Path.{ap}
use Rattle.magnetar_hash.specs.Transcript.{TranscriptAnswer}
use Rattle.magnetar_relation.specs.Rules.{Rules}
use Rattle.magnetar_relation.specs.Rules.{rules_by}
use Rattle.magnetar_spartan.proofs.ProveRun.{handed-back, outer-unrefused, run-through}
use Rattle.magnetar_spartan.proofs.virtual_spartan.prove_virtual_spartan.Goals as goal

pub returns-in_err-prove : goal.returns-in_err-prove
returns-in_err-prove g c =
    let x = c.args in
    let R : Rules = rules_by x.m x.q x.lens.now x.sh (g.E.Entries.numbers x.es.now) in
    let e = handed-back R x.packed.now x.x.now x.out.now x.claims.now x.scratch.now x.t c.from_residual.result _ c.from_residual.ensures.1
    c.in_err-prove.ensures _ in
    record { outcome = e.0; complete = e.1 }

pub returns-in_err-u : goal.returns-in_err-u
returns-in_err-u g c =
    let x = c.args in
    let R : Rules = rules_by x.m x.q x.lens.now x.sh (g.E.Entries.numbers x.es.now) in
    absurd (outer-unrefused R x.packed.now x.x.now x.out.now x.claims.now x.scratch.now x.t c.in_ok-prove.ensures c.products.new.s c.products.ensures
    _ c.in_err-u.ensures.answer)

pub returns : goal.returns
returns g c =
    let x = c.args in
    let R : Rules = rules_by x.m x.q x.lens.now x.sh (g.E.Entries.numbers x.es.now) in
    let o = c.outer_rounds in
    let u = c.in_ok-u in
    let r = run-through R x.packed.now x.x.now x.out.now x.claims.now x.scratch.now x.t c.in_ok-prove.ensures c.products.new.s o.new.s c.combine_at.new.s
    u.u c.inner_stage.result o.new.draws _ _ _ _ c.products.ensures
    (ap (λ (a : TranscriptAnswer). a.transcript) u.ensures.answer, o.ensures.draws, o.ensures.proof, o.ensures.scratch)
    c.combine_at.ensures c.inner_stage.ensures in
    record { outcome = r.0; complete = r.1 }
