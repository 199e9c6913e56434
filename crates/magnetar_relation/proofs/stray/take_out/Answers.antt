use mathlib.Core.Path.{refl}
use native.Mathlib.Omega.{arith}
use Rattle.magnetar_layout.proofs.Laid.{offset-within}
use Rattle.magnetar_layout.proofs.Places.{placed}
use Rattle.magnetar_relation.proofs.MaskLaws.{in_words, out-start, out-more, out-end, places-long, place_is}
use Rattle.magnetar_relation.proofs.stray.take_out.Goals as goal

pub loop-i-init : goal.loop-i-init
loop-i-init c = out-start _ _ c.requires.layout_fits.0 _ c.requires.all_marked

pub bounds-places-i : goal.bounds-places-i
bounds-places-i c =
    omega (arith, c.loop-i-test.true, places-long c.args.w c.args.lens.now c.requires.layout_fits.0 c.args.places.now c.requires.layout_fits.1)

pub flip_run-requires : goal.flip_run-requires
flip_run-requires c =
    let x = c.args in
    let f = c.requires.layout_fits in
    let i = c.loop-i.i in
    let h = c.loop-i-test.true in
    let e = place_is x.w x.lens.now f.0 i x.places.now h f.1 in
    let k = offset-within x.w x.lens.now i f.0 h in
    let p = placed x.w x.lens.now i f.0 h in record {
      some = p.size.least;
      in_words = rw e (in_words _ _ _ _ p);
      n_bound = (omega (arith, e, k, f.2, f.0.small, c.loop-i.auto.mask), omega (arith, e, k, f.0.small));
    }

pub loop-i-preserved : goal.loop-i-preserved
loop-i-preserved c =
    let x = c.args in
    let l = c.loop-i in
    let h = c.loop-i-test.true in
    let e = place_is x.w x.lens.now c.requires.layout_fits.0 l.i x.places.now h c.requires.layout_fits.1 in
    out-more x.w x.lens.now c.requires.layout_fits.0 l.i _ _ _ _ h e refl l.invariant c.flip_run.ensures

pub returns : goal.returns
returns c =
    out-end c.args.w c.args.lens.now c.requires.layout_fits.0 c.loop-i.i _ (omega (arith, c.loop-i-test.false)) c.loop-i.invariant
