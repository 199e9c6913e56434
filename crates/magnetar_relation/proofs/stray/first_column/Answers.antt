use mathlib.Core.Path.{refl}
use Prim.Native.Nat.{ℕ, ◌<◌, ◌^◌}
use native.Mathlib.Omega.{arith}
use lib.Bits.{bit_and, and_lt}
use lib.ListN.{get_or}
use Rattle.magnetar_relation.proofs.StrayLaws.{apart_more, first-common, first-inside, none-common}
use Rattle.magnetar_relation.proofs.stray.first_column.Goals as goal

pub loop-k-init : goal.loop-k-init
loop-k-init c = λ y h. absurd (omega arith)

pub returns-then-common-ne0 : goal.returns-then-common-ne0
returns-then-common-ne0 c =
    let x = c.args in
    let k = c.loop-k.k in
    let common : ℕ = bit_and (get_or x.words.now k 0) (get_or x.mask.now k 0) in
    let a : get_or x.words.now k 0 < 2 ^ 64 = omega (arith, c.type_inv.words k) in
    let b : get_or x.mask.now k 0 < 2 ^ 64 = omega (arith, c.type_inv.mask k) in
    let small = and_lt 64 _ _ a b in record {
      first = first-common x.mask.now x.words.now k common refl c.if-common-ne0.true small x.w c.requires.none_past c.loop-k.invariant;
      inside = first-inside x.mask.now x.words.now k common refl c.if-common-ne0.true small x.w c.requires.none_past c.loop-k.invariant;
    }

pub loop-k-preserved : goal.loop-k-preserved
loop-k-preserved c = apart_more _ _ c.loop-k.k _ refl c.if-common-ne0.false c.loop-k.invariant

pub returns-clause-first : goal.returns-clause-first
returns-clause-first c = none-common _ _ _ _ (omega (arith, c.loop-k-test.false)) c.loop-k.invariant
