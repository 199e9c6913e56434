use Rattle.std.proofs.Common.{◌≡◌, ◌*◌, ◌/◌, ◌<◌, ◌≤◌, true, false, ltb, length, refl, arith, le-ltb, lt-ltb}
use Rattle.std.proofs.lemmas.Bool.{leb-true, leb-false}
use Rattle.magnetar_hash.specs.Transcript.{draws_answer, draws_out, draws_code}
use Rattle.magnetar_hash.proofs.Draws.{vec-done}
use Rattle.magnetar_hash.proofs.Tests.{met, unmet}
use Rattle.magnetar_hash.proofs.transcript.challenge_field_vec.Goals as goal

pub slice_bounds-draw_vec-end : goal.slice_bounds-draw_vec-end
slice_bounds-draw_vec-end c =
    let n = met _ _ _ _ _ c.require.ensures c.in_ok-require.was in
    let h = leb-true _ _ n.0 in
    omega arith

pub returns-in_err-on_time : goal.returns-in_err-on_time
unfolding draws_answer draws_out draws_code
returns-in_err-on_time c =
    let u = unmet _ _ _ _ _ _ c.on_time.ensures c.in_err-on_time.was c.from_residual.ensures.1 in
    simp (u.1, u.0) (refl, refl)

pub returns-in_err-require : goal.returns-in_err-require
unfolding draws_answer draws_out draws_code
returns-in_err-require c =
    let a = c.args in
    let m = met _ _ _ _ _ c.on_time.ensures c.in_ok-on_time.was in
    let u = unmet _ _ _ _ _ _ c.require.ensures c.in_err-require.was c.from_residual-in_err-require.ensures.1 in
    let h : length a.out.now / 2 < a.n = leb-false _ _ u.0 in
    let e : ltb (length a.out.now) (2 * a.n) ≡ true = lt-ltb (length a.out.now) (2 * a.n) (omega arith) in
    simp (u.1, m.0, e) (refl, refl)

pub returns : goal.returns
unfolding draws_answer draws_out draws_code
returns c =
    let a = c.args in
    let m = met _ _ _ _ _ c.on_time.ensures c.in_ok-on_time.was in
    let n = met _ _ _ _ _ c.require.ensures c.in_ok-require.was in
    let h : a.n ≤ length a.out.now / 2 = leb-true _ _ n.0 in
    let v = vec-done a.t a.label.now a.out.now a.n h c.draw_vec.ensures.0 c.draw_vec.ensures.1 in
    let e : ltb (length a.out.now) (2 * a.n) ≡ false = le-ltb (length a.out.now) (2 * a.n) (omega arith) in
    simp (m.0, e, v.0, v.1) (refl, refl)
