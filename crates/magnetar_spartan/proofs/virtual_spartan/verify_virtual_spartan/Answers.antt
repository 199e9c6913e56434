use mathlib.Core.Path.{ap, ◌∙◌, refl}
use mathlib.Core.List.{List}
use Prim.Native.Nat.{ℕ}
use native.Mathlib.Omega.{arith}
use Rattle.magnetar_field.specs.Number.{number}
use Rattle.magnetar_matrix.specs.Batch.{Relation}
use Rattle.magnetar_relation.specs.Rules.{Rules}
use Rattle.magnetar_spartan.specs.Refusals.{sizes_only_of}
use Rattle.magnetar_relation.specs.Rules.{rules_by}
use Rattle.magnetar_spartan.specs.Stages.{run_to, drawn_of, claims_at, checked}
use Rattle.magnetar_spartan.proofs.Chains.{draws-are}
use Rattle.magnetar_spartan.proofs.StageLaws.{part-is, stopped-is, passed-is}
use Rattle.magnetar_spartan.proofs.VerifyEnds.{verify-back, verify-ends}
use Rattle.magnetar_spartan.proofs.virtual_spartan.verify_virtual_spartan.Goals as goal

pub returns-in-Err : goal.returns-in-Err
returns-in-Err g c =
    let x = c.args in
    let R : Rules = rules_by x.m x.q x.lens.now x.sh (g.E.Entries.numbers x.es.now) in
    let e = verify-back R x.x.now x.proof.now x.t x.claims.now x.scratch.now c.in-Err.r c.in-Err.ensures
    (λ j. omega (arith, c.type_inv.x j)) (λ j. omega (arith, c.type_inv.proof j)) in
    record { outcome = e.0; bound = e.1; sound = tt }

pub returns-in-Ok : goal.returns-in-Ok
returns-in-Ok g c =
    let x = c.args in
    let R : Rules = rules_by x.m x.q x.lens.now x.sh (g.E.Entries.numbers x.es.now) in
    let o : Relation = sizes_only_of R in
    let w = x.proof.now in
    let d = c.play-run.result.draws in
    let u = c.play-run.result.transcript in
    let many = draws-are x.m x.q x.sh.bin.a.rows x.sh.fld.a.rows x.lens.now c.of.result c.draw_words.result c.of.ensures.rounds c.draw_words.ensures in
    let part = part-is o c.draw_words.result c.min-k.result d c.min-k.ensures many in
    let ends = passed-is o w (drawn_of o d) x.t (run_to o w x.t 65536) x.claims.now (checked R x.x.now w d x.scratch.now) u c.write_claims-done.new.claims
    c.in-Ok.ensures.0 c.play-run.ensures.transcript
    (c.write_claims-done.ensures.written ∙ ap (λ (l : List ℕ). claims_at o w l x.claims.now) part) in
    let e = verify-ends R x.x.now w x.t x.claims.now x.scratch.now c.in_default.ensures d c.checks-found.new.s c.clear.new.s
    (record { code = 0; transcript = u }) c.write_claims-done.new.claims c.play-run.ensures.draws c.in-Ok.ensures.1 c.clear.ensures ends
    (λ j. omega (arith, c.type_inv.x j)) (λ j. omega (arith, c.type_inv.proof j)) in
    record { outcome = e.0; bound = e.1; sound = e.2 refl }

pub returns-in-Err-found : goal.returns-in-Err-found
returns-in-Err-found g c =
    let x = c.args in
    let R : Rules = rules_by x.m x.q x.lens.now x.sh (g.E.Entries.numbers x.es.now) in
    let o : Relation = sizes_only_of R in
    let w = x.proof.now in
    let d = c.play-run.result.draws in
    let f = c.in-Err-found.f in
    let u = c.play.result.transcript in
    let ends = stopped-is o w (drawn_of o d) x.t (run_to o w x.t 65536) x.claims.now (checked R x.x.now w d x.scratch.now) f u
    c.in-Err-found.ensures.0 c.play.ensures.transcript in
    let e = verify-ends R x.x.now w x.t x.claims.now x.scratch.now c.in_default.ensures d c.checks-found.new.s c.clear.new.s
    (record { code = number f.check; transcript = u }) x.claims.now c.play-run.ensures.draws c.in-Err-found.ensures.1 c.clear.ensures ends
    (λ j. omega (arith, c.type_inv.x j)) (λ j. omega (arith, c.type_inv.proof j)) in
    record { outcome = e.0; bound = e.1; sound = tt }
