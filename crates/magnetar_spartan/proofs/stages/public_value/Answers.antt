use mathlib.Core.Path.{refl, sym, ◌∙◌}
use Prim.Native.Nat.{◌+◌, ◌*◌, ◌/◌, ◌≤◌}
use native.Mathlib.Omega.{arith}
use lib.ListN.{length, length-take}
use Rattle.magnetar_field.specs.Gf128.{value}
use Rattle.magnetar_batch.specs.Entries.{public_in_refusal}
use Rattle.magnetar_r1cs.proofs.Points.{log-most}
use Rattle.magnetar_layout.proofs.Refused.{clear, failed}
use Rattle.magnetar_spartan.proofs.PublicValue.{public-short, public-refused, size_is, public-some}
use Rattle.magnetar_spartan.proofs.stages.public_value.Goals as goal
use Rattle.magnetar_spartan.proofs.stages.public_value.Goals.{then-m-h-via-then-m-h, then-m-h-via-else-m-h+then-q-h}

pub returns-then-m-h : goal.returns-then-m-h
returns-then-m-h c =
    let x = c.args in
    elim c.then-m-h.branch [
      | then-m-h-via-then-m-h w ↦ public-short x.m x.q x.x.now x.point.now x.y.now x.s.now (omega (arith, w.if-m-h.true))
      | then-m-h-via-else-m-h+then-q-h w ↦ public-short x.m x.q x.x.now x.point.now x.y.now x.s.now (omega (arith, w.if-q-h.true, w.if-m-h.false))
    ]

pub returns-then-is_err : goal.returns-then-is_err
returns-then-is_err c =
    let x = c.args in
    let f = c.fold_public_in in
    public-refused x.m x.q x.x.now x.point.now x.y.now x.s.now (public_in_refusal x.x.now x.q (x.m / 2) x.point.now x.s.now) _
    (omega (arith, c.if-q-h.false, c.if-m-h.false)) refl (failed f.result f.ensures.answer (sym c.is_err.ensures.value ∙ c.if-is_err.true)) f.ensures.folded

pub shared_ref_as_front-half_value : goal.shared_ref_as_front-half_value
shared_ref_as_front-half_value c =
    let x = c.args in
    let f = c.fold_public_in in
    let enough : 2 * x.m + 2 * x.q ≤ length x.s.now = omega (arith, c.if-q-h.false, c.if-m-h.false) in
    let none = clear f.result f.ensures.answer (sym c.is_err.ensures.value ∙ c.if-is_err.false) in
    let z = size_is x.m x.q x.x.now x.point.now x.y.now x.s.now 0 enough none refl in
    omega (arith, c.told-y, c.log2.ensures.0, log-most (x.m / 2) (omega (arith, z.high)) z.power)

pub half_value-v-requires : goal.half_value-v-requires
half_value-v-requires c =
    let x = c.args in
    let f = c.fold_public_in in
    let enough : 2 * x.m + 2 * x.q ≤ length x.s.now = omega (arith, c.if-q-h.false, c.if-m-h.false) in
    let none = clear f.result f.ensures.answer (sym c.is_err.ensures.value ∙ c.if-is_err.false) in
    let z = size_is x.m x.q x.x.now x.point.now x.y.now x.s.now 0 enough none refl in
    let small : c.log2.result ≤ 16 = omega (arith, c.log2.ensures.0, log-most (x.m / 2) (omega (arith, z.high)) z.power) in
    (z, omega (arith, enough, f.auto.s), rw (length-take, ← c.log2.ensures.0) (omega (arith, small, c.told-y)))

pub returns : goal.returns
returns c =
    let x = c.args in
    let f = c.fold_public_in in
    let h = c.half_value-v in
    let enough : 2 * x.m + 2 * x.q ≤ length x.s.now = omega (arith, c.if-q-h.false, c.if-m-h.false) in
    let none = clear f.result f.ensures.answer (sym c.is_err.ensures.value ∙ c.if-is_err.false) in
    public-some x.m x.q x.x.now x.point.now x.y.now x.s.now 0 enough none refl c.log2.result (value h.result) _ _ _
    f.ensures.folded c.log2.ensures.0 h.ensures.value h.auto.s h.ensures.behind c.clear_front.ensures
