use Rattle.magnetar_prover.proofs.EqTablePlaced.{three-sent}
use Rattle.magnetar_prover.proofs.ends.send_block.Goals as goal

pub returns : goal.returns
returns c = let x = c.args in
    let a = c.send_terminal-u in
    let b = c.send_terminal-v in
    let d = c.send_terminal-r in
    three-sent "vs-terminal-" x.i x.p x.w x.s.now x.proof.now a.new.proof b.new.proof d.new.proof x.t a.result b.result d.result c.requires.3
    a.ensures.transcript a.ensures.sent b.ensures.transcript b.ensures.sent d.ensures.transcript d.ensures.sent
