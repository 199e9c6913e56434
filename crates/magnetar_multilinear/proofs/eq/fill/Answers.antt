use mathlib.Core.Path.{◌≡◌, ap, ◌∙◌}
use Prim.Native.Nat.{ℕ, ◌<◌, ◌*◌, ◌/◌, ◌^◌}
use native.Mathlib.Omega.{arith}
use mathlib.Core.List.{List}
use lib.ListN.{length, get_or}
use lib.Seq.{get_or-set_same}
use lib.Arith.{digits_lt}
use lib.Pow.{pow_pos}
use Rattle.magnetar_field.specs.Gf128.{value}
use Rattle.magnetar_field.specs.Words.{elements, stored}
use Rattle.magnetar_multilinear.specs.EqTable.{eq_table_from}
use Rattle.magnetar_field.proofs.Elements.{elements-length, elements-stored}
use Rattle.magnetar_multilinear.proofs.Filling.{room, filled-start, filled_more, filled-end}
use borrow.Author.Rules.{rules}
use Rattle.magnetar_multilinear.proofs.eq.fill.Goals as goal

-- element 0 of words into which it was put
first : (out out' : List ℕ) (n v : ℕ) → out' ≡ stored out 0 v → length out ≡ 2 * 2 ^ n → get_or (elements out') 0 0 ≡ v
first out out' n v e l =
    ap (λ (t : List ℕ). get_or t 0 0) (ap elements e ∙ elements-stored _ _ _)
    ∙ get_or-set_same (elements out) 0 v 0 (rw elements-length (omega (arith, pow_pos n)))

pub loop-j-init : goal.loop-j-init
loop-j-init c =
    let x = c.args in
    let n = length x.point.now / 2 in
    let fits : value x.start < 2 ^ 128 = digits_lt {q = x.start.hi} {m = 2 ^ 64} {r = x.start.lo} {c = 2 ^ 64} (search rules) (search rules) in record {
      room = search rules;
      filled =
          rw (first x.out.now c.put.new.s n (value x.start) c.put.ensures (omega arith))
          (filled-start _ _ _ (elements x.out.now) _ fits (ap elements c.put.ensures ∙ elements-stored _ _ _) (rw elements-length (omega arith))
          (rw elements-length (omega (arith, pow_pos n))));
    }

pub expand-requires : goal.expand-requires
expand-requires c = let l = c.loop-j in omega (arith, room (length c.args.point.now / 2) l.m l.j (omega arith) (omega arith) l.invariant.filled.size)

pub loop-j-preserved : goal.loop-j-preserved
loop-j-preserved c = record {
  room = search rules;
  filled =
      filled_more _ _ _ _ _ _ _ (rw elements-length (omega arith)) (omega arith) (omega arith) c.loop-j.invariant.filled
      (rw (← c.get.ensures) c.expand.ensures);
}

pub returns : goal.returns
returns c =
    let x = c.args in
    filled-end _ _ _ _ _ _ (rw elements-length (omega arith)) (omega arith) c.loop-j.invariant.filled
    ∙ ap (λ (v : ℕ). eq_table_from v (elements x.point.now))
    (first x.out.now c.put.new.s (length x.point.now / 2) (value x.start) c.put.ensures (omega arith))
