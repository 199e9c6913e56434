use Rattle.std.proofs.Common.{◌%◌, mod-lt, zero-lt-suc, sym, refl, arith}
use Rattle.magnetar_hash.proofs.Squeeze.{length-squeezed, get-squeezed}
use Rattle.magnetar_hash.proofs.Bytes.{get-eight}
use Rattle.magnetar_keccak.proofs.Written.{written_none, written-more, written_all}
use Rattle.magnetar_hash.proofs.hasher.Sponge.squeeze.Goals as goal

pub loop-j-init : goal.loop-j-init
loop-j-init c = written_none _ _ (sym (length-squeezed _))

pub loop-j-preserved : goal.loop-j-preserved
loop-j-preserved c =
    let l = c.loop-j in
    let s = c.args.self.now.lanes in
    written-more _ _ _ _ _ l.invariant (omega (arith, length-squeezed s)) refl
    (rw (c.to_le_bytes.ensures, get-eight _ (l.j % 8) (mod-lt l.j (zero-lt-suc 7))) (sym (get-squeezed s l.j (omega arith))))

pub returns : goal.returns
returns c = written_all _ _ c.loop-j.j c.loop-j.invariant (omega (arith, length-squeezed c.args.self.now.lanes))
