use Prim.Native.Nat.{◌≤◌}
use native.Mathlib.Omega.{arith}
use lib.ListN.{length}
use Rattle.magnetar_matrix.specs.Packed.{login_words}
use Rattle.magnetar_matrix.proofs.LoginParts.{words-most}
use Rattle.magnetar_matrix.proofs.FirstRow.{below-start, below_more}
use Rattle.magnetar_relation.proofs.StrayLaws.{part_length, none-past, login-clear, login-stray, all-clear}
use Rattle.magnetar_relation.proofs.stray.first_login.Goals as goal

pub loop-login-init : goal.loop-login-init
loop-login-init c = below-start _

pub first_column-requires : goal.first_column-requires
first_column-requires c =
    let x = c.args in
    let n : length c.part.result.now ≤ login_words x.w = rw c.part.ensures (part_length x.w x.packed.now c.loop-login.login) in record {
      words_in_bounds = (omega (arith, n, words-most x.w c.requires.0, c.requires.1), omega (arith, c.requires.1));
      none_past = none-past x.q x.w x.lens.now x.packed.now x.mask.now c.requires.2;
    }

pub returns-in-Some : goal.returns-in-Some
returns-in-Some c =
    let x = c.args in
    login-stray x.q x.w x.lens.now x.packed.now x.mask.now c.requires.2 c.loop-login.login _ c.loop-login-test.true
    (rw c.part.ensures at c.in-Some.ensures.first) c.in-Some.ensures.inside c.loop-login.invariant

pub loop-login-preserved : goal.loop-login-preserved
loop-login-preserved c =
    let x = c.args in
    let u = c.loop-login.login in
    let e = rw c.part.ensures at c.in_default.ensures.first in
    below_more _ u c.loop-login.invariant
    (login-clear x.q x.w x.lens.now x.packed.now x.mask.now c.requires.2 u x.w c.loop-login-test.true e (omega arith) (omega arith))

pub returns : goal.returns
returns c =
    let x = c.args in
    all-clear x.q x.w x.lens.now x.packed.now x.mask.now c.requires.2 c.loop-login.login (omega arith) c.loop-login.invariant
