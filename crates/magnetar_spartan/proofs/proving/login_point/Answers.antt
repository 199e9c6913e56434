use mathlib.Core.Path.{◌≡◌, refl, ap, ◌∙◌}
use mathlib.Core.List.{append-nil}
use Prim.Native.Nat.{ℕ, ◌+◌, ◌-◌, ◌≤◌}
use native.Mathlib.Omega.{arith}
use lib.ListN.{length, get_or, drop_of_length-le}
use Rattle.magnetar_field.specs.Gf128.{value}
use Rattle.magnetar_field.specs.Words.{elements}
use Rattle.magnetar_field.proofs.Elements.{elements-length, elements-stored}
use Rattle.magnetar_field.proofs.Making.{made_none, made_more}
use borrow.Author.Rules.{rules}
use Rattle.magnetar_spartan.proofs.proving.login_point.Goals as goal

pub loop-i-init : goal.loop-i-init
loop-i-init c = (search rules, refl, made_none _ _)

pub loop-i-preserved : goal.loop-i-preserved
loop-i-preserved c =
    let l = c.loop-i in
    let x = c.args in (
      search rules,
      search rules,
      rw (ap elements c.put.ensures ∙ elements-stored l.out l.i (value c.get.result))
          (made_more (λ (j : ℕ). get_or (elements x.draws.now) (x.k + (x.n - 1 - j)) 0) (elements x.out.now) (elements l.out) l.i
          (value c.get.result) l.invariant.2 (rw elements-length (omega arith)) c.get.ensures),
    )

pub returns : goal.returns
returns c =
    let l = c.loop-i in
    let x = c.args in
    let e : l.i ≡ x.n = omega arith in
    let h : length (elements x.out.now) ≤ x.n = rw elements-length (omega arith) in
    rw (l.invariant.2.list, e, drop_of_length-le (elements x.out.now) {i = x.n} h, append-nil)
