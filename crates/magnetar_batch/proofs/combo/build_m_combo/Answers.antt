use Rattle.std.specs.Prelude.{[], Ok, Err}
use mathlib.Core.Path.{refl}
use Rattle.magnetar_field.specs.declared.refusal.Refusal.TheVariants.{Size}
use Rattle.magnetar_layout.proofs.Passing.{required}
use Rattle.magnetar_relation.specs.Rules.{Rules, rules_by}
use Rattle.magnetar_batch.proofs.ComboEnds.{size-turned, rules-turned, points-turned, room-turned, all-passed, combo-called}
use Rattle.magnetar_batch.proofs.combo.build_m_combo.Goals as goal

pub returns-in_err-require : goal.returns-in_err-require
returns-in_err-require g c =
    let x = c.args in
    let R : Rules = rules_by x.m 1 [] x.sh (g.E.Entries.numbers x.es.now) in
    size-turned R x.alphas.now x.pb.now x.pf.now x.out.now x.scratch.now _ _ c.from_residual.ensures.1
    (rw c.is_size.ensures at (required (Err _) c.is_size.result Size c.in_err-require.ensures))

pub returns-in_err-check : goal.returns-in_err-check
returns-in_err-check g c =
    let x = c.args in
    let R : Rules = rules_by x.m 1 [] x.sh (g.E.Entries.numbers x.es.now) in
    rules-turned R x.alphas.now x.pb.now x.pf.now x.out.now x.scratch.now _ _ c.from_residual-in_err-check.ensures.1
    (rw c.is_size.ensures at (required (Ok _) c.is_size.result Size c.in_ok-require.ensures)) c.in_err-check.ensures

pub returns-in_err-points_fit : goal.returns-in_err-points_fit
returns-in_err-points_fit g c =
    let x = c.args in
    let R : Rules = rules_by x.m 1 [] x.sh (g.E.Entries.numbers x.es.now) in
    points-turned R x.alphas.now x.pb.now x.pf.now x.out.now x.scratch.now _ _ c.from_residual-in_err-points_fit.ensures.1
    (rw c.is_size.ensures at (required (Ok _) c.is_size.result Size c.in_ok-require.ensures))
    c.in_ok-check.ensures c.in_err-points_fit.ensures

pub returns-in_err-room_fits : goal.returns-in_err-room_fits
returns-in_err-room_fits g c =
    let x = c.args in
    let R : Rules = rules_by x.m 1 [] x.sh (g.E.Entries.numbers x.es.now) in
    room-turned R x.alphas.now x.pb.now x.pf.now x.out.now x.scratch.now _ _ c.from_residual-in_err-room_fits.ensures.1
    (rw c.is_size.ensures at (required (Ok _) c.is_size.result Size c.in_ok-require.ensures))
    c.in_ok-check.ensures c.in_ok-points_fit.ensures c.in_err-room_fits.ensures

pub returns : goal.returns
returns g c =
    let x = c.args in
    let R : Rules = rules_by x.m 1 [] x.sh (g.E.Entries.numbers x.es.now) in
    combo-called R x.alphas.now x.pb.now x.pf.now x.out.now x.scratch.now 0
    (all-passed R x.alphas.now x.pb.now x.pf.now x.out.now x.scratch.now
    (rw c.is_size.ensures at (required (Ok _) c.is_size.result Size c.in_ok-require.ensures))
    c.in_ok-check.ensures c.in_ok-points_fit.ensures c.in_ok-room_fits.ensures) _ _ _ _ _ _
    refl c.padded-al.ensures c.padded-p.ensures c.padded-r.ensures c.combine.ensures c.move_table.ensures
