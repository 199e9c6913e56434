use Rattle.magnetar_hash.specs.Bytes.{ascii}
use Rattle.magnetar_prover.proofs.Drawn.{drawn-both-times}
use native.Mathlib.Omega.{arith}
use Rattle.magnetar_prover.proofs.ends.taus.Goals as goal

pub returns : goal.returns
returns c = let x = c.args in
    drawn-both-times x.draws.now c.tau-u.new.out c.tau-r.new.out x.t c.tau-u.result c.tau-r.result (ascii "vs-tau-bin") (ascii
    "vs-tau-fld") x.sb x.sf (omega arith) c.tau-u.ensures.0 c.tau-u.ensures.1 c.tau-r.ensures.0 c.tau-r.ensures.1
