use Rattle.magnetar_relation.specs.Stray.{stray_found}
use Rattle.magnetar_relation.proofs.StrayLaws.{stray-early, stray-late, stray-none, half-most}
use Rattle.magnetar_relation.proofs.stray.first_stray.Goals as goal

pub returns-in_err-sizes : goal.returns-in_err-sizes
returns-in_err-sizes c =
    let x = c.args in
    stray-early x.q x.w x.lens.now x.packed.now _ _ c.from_residual.ensures.1 c.in_err-sizes.ensures

pub returns-in_err-refusal : goal.returns-in_err-refusal
returns-in_err-refusal c =
    let x = c.args in
    stray-late x.q x.w x.lens.now x.packed.now _ _ c.from_residual-in_err-refusal.ensures.1 c.in_ok-sizes.ensures c.in_err-refusal.ensures

pub first_login-requires : goal.first_login-requires
first_login-requires c =
    let x = c.args in
    (half-most x.q x.w x.lens.now x.packed.now c.in_ok-sizes.ensures, c.mark_outside.auto.mask, c.mark_outside.ensures)

pub returns : goal.returns
returns c =
    let x = c.args in
    stray-none x.q x.w x.lens.now x.packed.now c.in_ok-sizes.ensures c.in_ok-refusal.ensures (stray_found c.first_login.result) c.first_login.ensures
