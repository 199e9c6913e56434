use mathlib.Core.Path.{◌≡◌, refl}
use Prim.Native.Nat.{◌+◌, ◌-◌, ◌<◌}
use native.Mathlib.Omega.{arith}
use Rattle.magnetar_relation.proofs.MaskLaws.{left-start, left-next, left-fits, flip-none, flip-more}
use Rattle.magnetar_relation.proofs.stray.flip_run.Goals as goal

pub loop-y-init : goal.loop-y-init
loop-y-init c =
    let x = c.args in
    let z : x.o + x.n - x.o ≡ x.n = omega arith in record {
      inside = omega arith;
      left = rw z (left-start x.o x.n _ c.requires.in_words c.min-t.ensures);
      done = flip-none _ _ _ (omega arith);
    }

pub flip-requires : goal.flip-requires
flip-requires c =
    let l = c.loop-y in
    let f = left-fits _ _ _ (omega (arith, c.loop-y-test.true)) l.invariant.left in
    (f.word, omega (arith, f.inside, f.some, f.word))

pub loop-y-smaller : goal.loop-y-smaller
loop-y-smaller c = let f = left-fits _ _ _ (omega (arith, c.loop-y-test.true)) c.loop-y.invariant.left in omega (arith, f.some, f.inside)

pub loop-y-preserved : goal.loop-y-preserved
loop-y-preserved c =
    let l = c.loop-y in
    let x = c.args in
    let p : 0 < x.o + x.n - l.y = omega (arith, c.loop-y-test.true) in
    let f = left-fits l.y (x.o + x.n - l.y) _ p l.invariant.left in
    let d : x.o + x.n - (l.y + c.min-t.result) ≡ x.o + x.n - l.y - c.min-t.result = omega arith in record {
      inside = omega (arith, f.inside);
      left = rw d (left-next _ _ _ p l.invariant.left);
      done = flip-more _ l.y _ _ _ _ _ l.auto.y refl l.invariant.done c.flip.ensures;
    }

pub returns : goal.returns
returns c =
    let e : c.loop-y.y - c.args.o ≡ c.args.n = omega (arith, c.loop-y-test.false) in
    rw e at c.loop-y.invariant.done

pub returns-2 : goal.returns-2
returns-2 c =
    let l = c.loop-y in
    let f = left-fits _ _ _ (omega (arith, c.loop-y-test.true)) l.invariant.left in
    flip-more _ l.y _ _ _ _ _ l.auto.y (omega (arith, f.inside)) l.invariant.done c.flip.ensures
