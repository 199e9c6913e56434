use mathlib.Core.Path.{◌∙◌}
use Prim.Native.Nat.{◌*◌}
use lib.ListN.{length}
use native.Mathlib.Omega.{arith}
use Rattle.magnetar_matrix.specs.Numbers.{entries_by}
use Rattle.magnetar_r1cs.specs.Flips.{flip_block}
use Rattle.magnetar_matrix.proofs.Blocks.{block_of, mid-length, blocks_start, blocks_more, blocks_end}
use Rattle.magnetar_r1cs.proofs.Flipped.{rows_of}
use Rattle.magnetar_r1cs.proofs.masks.mask_all.Goals as goal

pub loop-low-init : goal.loop-low-init
loop-low-init g c = blocks_start _ _ _

pub loop-low-preserved : goal.loop-low-preserved
loop-low-preserved g c =
    let x = c.args in
    let l = c.loop-low in
    let r = c.mask_rows in
    let t = r.new.out in
    let p = block_of (length l.out) x.d x.m l.low (l.auto.out ∙ c.requires.7) c.requires.4 (omega (arith, c.requires.5)) c.loop-low-test.true in
    let f = flip_block x.w x.packed.now (entries_by (g.E.Entries.numbers x.es.now)) x.d x.n in
    blocks_more (f x.m) l.out t l.low x.m p.ends l.invariant (mid-length l.out t (l.low * x.m) x.m p.ends r.auto.out)
    (rows_of f l.out t (l.low * x.m) x.m l.low p.ends r.ensures)

pub returns : goal.returns
returns g c =
    let l = c.loop-low in
    blocks_end _ l.out l.low c.args.d c.args.m (omega arith) (l.auto.out ∙ c.requires.7) l.invariant
