use Rattle.magnetar_hash.specs.Bytes.{ascii}
use Rattle.magnetar_prover.proofs.Drawn.{drawn-times-in}
use mathlib.Core.List.{[]}
use mathlib.Core.Path.{refl}
use native.Mathlib.Omega.{arith}
use Rattle.magnetar_prover.proofs.ends.draw_alphas.Goals as goal

pub returns : goal.returns
returns c = let x = c.args in
    drawn-times-in x.draws.now c.alphas-r.new.out (ascii "vs-alpha") x.t c.alphas-r.result x.d 12 6
    refl (omega arith) c.alphas-r.ensures.0 c.alphas-r.ensures.1 0 []
