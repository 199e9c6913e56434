use mathlib.Core.Path.{◌≡◌, refl}
use Prim.Native.Nat.{ℕ}
use native.Mathlib.Omega.{arith}
use lib.ListN.{length, length-replicate}
use Rattle.magnetar_layout.proofs.Laid.{sound}
use Rattle.magnetar_relation.proofs.MaskLaws.{all-marked, zero-mask, all-in-words, some-columns, built}
use Rattle.magnetar_relation.proofs.stray.mark_outside.Goals as goal

pub flip_run-requires : goal.flip_run-requires
flip_run-requires c =
    let x = c.args in
    let e = c.requires.lens_value in
    let f = sound x.w x.lens.now e in
    let l : length x.mask.now ≡ 512 = rw c.requires.mask_value (length-replicate {A = ℕ} 512 0) in record {
      some = some-columns x.w x.lens.now e;
      in_words = all-in-words x.w x.lens.now f (some-columns x.w x.lens.now e);
      n_bound = (omega (arith, l, f.small), omega (arith, f.small));
    }

pub take_out-requires : goal.take_out-requires
take_out-requires c =
    let x = c.args in
    let e = c.requires.lens_value in
    let l : length x.mask.now ≡ 512 = rw c.requires.mask_value (length-replicate {A = ℕ} 512 0) in
    let f = sound x.w x.lens.now e in
    let k : length c.flip_run.new.mask ≡ length x.mask.now = c.flip_run.auto.mask in record {
      layout_fits = (f, rw c.build-built.ensures.written (built x.w x.lens.now e _ refl), omega (arith, l, k));
      all_marked = all-marked x.w x.mask.now _ (λ y. rw c.requires.mask_value (zero-mask 512 y)) c.flip_run.ensures;
    }
