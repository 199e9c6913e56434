use mathlib.Core.Path.{ap, refl, ◌∙◌}
use Rattle.std.specs.Prelude.{Ok, max, ◌*◌}
use Rattle.magnetar_relation.specs.Rules.{rules_by}
use Rattle.magnetar_relation.specs.Steps.{cleared_to}
use Rattle.magnetar_relation.specs.Stray.{stray_answer}
use Rattle.magnetar_check.specs.Check.{verdict}
use Rattle.magnetar_check.specs.Check.Outcome.{judged}
use Rattle.magnetar_check.specs.CheckSteps.{stray_found}
use Rattle.magnetar_check.proofs.CheckEnds.{check-back, check_done, unstray-is}
use Rattle.magnetar_check.proofs.check.row_check.Goals as goal

pub returns-in_err-refusal : goal.returns-in_err-refusal
returns-in_err-refusal g c =
    let x = c.args in
    let R = rules_by x.m x.q x.lens.now x.sh (g.E.Entries.numbers x.es.now) in
    check-back R x.packed.now x.x.now x.scratch.now _ c.in_err-refusal.ensures _ _ c.from_residual.ensures.1 refl

pub returns-in_err-stray : goal.returns-in_err-stray
returns-in_err-stray g c =
    let x = c.args in
    let R = rules_by x.m x.q x.lens.now x.sh (g.E.Entries.numbers x.es.now) in
    absurd (unstray-is R x.packed.now x.x.now x.scratch.now 0 c.in_ok-refusal.ensures _ refl refl _ c.in_err-stray.ensures)

pub returns : goal.returns
returns g c =
    let x = c.args in
    let R = rules_by x.m x.q x.lens.now x.sh (g.E.Entries.numbers x.es.now) in
    check_done R x.packed.now x.x.now x.scratch.now 0 c.in_ok-refusal.ensures _ refl (stray_found (stray_answer (Ok c.in_ok-stray.stray))) _ _
    (judged (verdict c.judge-found.result)) refl (ap stray_found c.in_ok-stray.ensures)
    (refl, c.clear_room.ensures ∙ ap (cleared_to (3 * max x.sh.bin.a.rows x.sh.fld.a.rows)) c.judge-found.ensures.1) c.judge-found.ensures.0
