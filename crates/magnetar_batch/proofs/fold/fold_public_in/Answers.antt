use Rattle.std.specs.Prelude.{◌≡◌, ◌+◌, ◌*◌, drop, replicate}
use mathlib.Core.Path.{refl}
use mathlib.Core.List.{append_assoc}
use native.Mathlib.Omega.{arith}
use lib.Dec.{lit≤}
use lib.ListN.{length-drop, length-take}
use Rattle.magnetar_field.specs.Words.{elements, words}
use Rattle.magnetar_layout.specs.Tests.{Sized, or_refuse}
use Rattle.magnetar_layout.proofs.FirstRefusal.{done}
use Rattle.magnetar_layout.proofs.SizeLaws.{sized-wider}
use Rattle.magnetar_matrix.specs.Packed.{public_of}
use Rattle.magnetar_matrix.specs.Batch.{public_folded}
use Rattle.magnetar_r1cs.proofs.Points.{point-of, point-size}
use Rattle.magnetar_batch.specs.Entries.{public_in_refusal}
use Rattle.magnetar_batch.proofs.Halves.{halves_are}
use Rattle.magnetar_batch.proofs.fold.fold_public_in.Goals as goal

pub fold_halves_one-requires-clause-point : goal.fold_halves_one-requires-clause-point
fold_halves_one-requires-clause-point c =
    let z : Sized 1 65536 c.args.q = sized-wider 65536 (lit≤ tt) c.in_ok-sizes_fit.ensures.fit.2 in
    point-of 1 c.args.q _ _ z (grind arith) (grind (arith, length-drop, length-take))

pub returns-clause-folded : goal.returns-clause-folded
unfolding public_in_refusal or_refuse
returns-clause-folded c =
    let x = c.args in
    let z : Sized 1 65536 x.q = sized-wider 65536 (lit≤ tt) c.in_ok-sizes_fit.ensures.fit.2 in
    let e : 0 ≡ public_in_refusal x.x.now x.q x.w x.point.now x.s.now = grind arith in
    let h = public_folded x.q x.w (public_of x.q x.w x.x.now) (elements x.point.now) in
    rw (
      c.fold_halves_one.ensures,
      halves_are x.q x.w x.x.now (elements x.point.now) (point-size _ _ _ z (grind arith)),
      append_assoc (words h) (replicate (2 * x.q) 0) (drop (2 * x.w + 2 * x.q) x.s.now),
    ) (done _ _ e refl)
