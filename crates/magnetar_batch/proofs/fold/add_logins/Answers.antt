use Rattle.std.specs.Prelude.{◌≡◌}
use native.Mathlib.Omega.{arith}
use Rattle.magnetar_matrix.proofs.LoginParts.{part-is}
use Rattle.magnetar_batch.proofs.Folds.{logins-start, logins-more}
use Rattle.magnetar_batch.proofs.fold.add_logins.Goals as goal

pub loop-u-init : goal.loop-u-init
loop-u-init c = logins-start _ _ _ _

pub loop-u-preserved : goal.loop-u-preserved
loop-u-preserved c =
    let l = c.loop-u in
    logins-more c.args.w _ _ l.u _ _ _ l.invariant
    (rw (part-is c.args.w c.args.packed.now l.u _ c.login_words-k.ensures, c.get.ensures) at c.add_login.ensures)

pub returns : goal.returns
returns c =
    let l = c.loop-u in
    let e : l.u ≡ c.args.q = omega arith in
    rw e at l.invariant
