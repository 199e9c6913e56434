use Rattle.magnetar_prover.proofs.LaidOut.{laid-copy, laid_table, laid-z}
use Rattle.magnetar_prover.proofs.inner.lay_out.Goals as goal

pub returns : goal.returns
returns c =
    let w = c.args.w in
    let u = c.args.s.now in
    let t = c.copy_down.new.s in
    let e = c.copy_down.ensures in record {
      table = laid_table w u t c.requires.0 e;
      z = laid-z w u t c.requires.0 e;
      copy = laid-copy w u t c.requires.0 e;
    }
