use Rattle.magnetar_prover.proofs.EqTablePlaced.{six-sent}
use Rattle.magnetar_prover.proofs.ends.terminals.Goals as goal

pub returns : goal.returns
returns c = let x = c.args in
    let a = c.send_block-u in
    let b = c.send_block-r in
    six-sent "vs-terminal-" x.p x.wb x.wf x.bin.now x.fld.now x.proof.now a.new.proof b.new.proof x.t a.result b.result a.ensures b.ensures
