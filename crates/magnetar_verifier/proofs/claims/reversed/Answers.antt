use mathlib.Core.Path.{◌≡◌, sym}
use mathlib.Core.List.{append-nil}
use Prim.Native.Nat.{◌≤◌, ◌-◌, ◌/◌}
use native.Mathlib.Omega.{arith}
use lib.ListN.{length, get_or, drop_of_length-le}
use Rattle.magnetar_field.specs.Gf128.{value}
use Rattle.magnetar_field.specs.Words.{elements}
use Rattle.magnetar_field.proofs.Elements.{elements-length, elements-stored}
use Rattle.magnetar_field.proofs.Making.{made_none, made_more}
use Rattle.magnetar_verifier.proofs.ClaimLaws.{reverse-is}
use Rattle.magnetar_verifier.proofs.claims.reversed.Goals as goal

pub loop-i-init : goal.loop-i-init
loop-i-init c = made_none _ _

pub loop-i-preserved : goal.loop-i-preserved
loop-i-preserved c =
    let l = c.loop-i in
    let x = c.args in
    let n = length x.s.now / 2 in
    rw (c.put.ensures, elements-stored)
    (made_more (λ i. get_or (elements x.s.now) (n - 1 - i) 0) (elements x.out.now) (elements l.out) l.i (value c.get.result) l.invariant
    (rw elements-length (omega arith)) c.get.ensures)

pub returns : goal.returns
returns c =
    let l = c.loop-i in
    let x = c.args in
    let n = length x.s.now / 2 in
    let e : l.i ≡ n = omega arith in
    let h : length (elements x.out.now) ≤ n = rw elements-length (omega arith) in
    rw (l.invariant.list, e, drop_of_length-le (elements x.out.now) {i = n} h, append-nil) (sym (reverse-is (elements x.s.now) n (elements-length x.s.now)))
