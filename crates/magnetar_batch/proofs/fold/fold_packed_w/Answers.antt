use Rattle.std.specs.Prelude.{◌≡◌}
use mathlib.Core.Path.{refl, ◌∙◌}
use native.Mathlib.Omega.{arith}
use lib.Dec.{lit≤}
use lib.Seq.{length-take-le}
use Rattle.magnetar_layout.specs.Tests.{Sized, or_refuse}
use Rattle.magnetar_layout.proofs.FirstRefusal.{done}
use Rattle.magnetar_layout.proofs.SizeLaws.{sized-wider}
use Rattle.magnetar_matrix.proofs.TableLaws.{in-front}
use Rattle.magnetar_r1cs.proofs.Points.{point-of, point-size}
use Rattle.magnetar_batch.specs.Entries.{fold_refusal}
use Rattle.magnetar_batch.proofs.Folds.{fold_is}
use Rattle.magnetar_batch.proofs.fold.fold_packed_w.Goals as goal

pub fold_in-requires-clause-point : goal.fold_in-requires-clause-point
fold_in-requires-clause-point c =
    let z : Sized 1 65536 c.args.q = sized-wider 65536 (lit≤ tt) c.in_ok-sizes_fit.ensures.fit.2 in
    point-of 1 c.args.q _ _ z (grind arith) (length-take-le _ _ (grind arith))

pub returns-clause-folded : goal.returns-clause-folded
unfolding fold_refusal or_refuse
returns-clause-folded c =
    let x = c.args in
    let z : Sized 1 65536 x.q = sized-wider 65536 (lit≤ tt) c.in_ok-sizes_fit.ensures.fit.2 in
    let e : 0 ≡ fold_refusal x.packed.now x.q x.w x.point.now x.out.now x.scratch.now = grind arith in
    in-front _ x.w x.out.now _ (grind arith) c.fold_in.ensures.out_after
    ∙ rw (fold_is x.q x.w x.packed.now _ (point-size 1 x.q x.point.now z (grind arith))) (done _ _ e refl)
