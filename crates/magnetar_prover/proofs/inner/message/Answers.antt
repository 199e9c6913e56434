use mathlib.Core.Path.{sym, ap, ◌∙◌}
use mathlib.Core.List.{List}
use Prim.Native.Nat.{ℕ, ◌+◌, ◌-◌, ◌*◌}
use native.Mathlib.Omega.{arith}
use lib.ListN.{take, drop}
use lib.Seq.{length-take-le}
use Rattle.magnetar_field.specs.Words.{elements, words}
use Rattle.magnetar_sumcheck_verifier.specs.Inner.{inner_message}
use Rattle.magnetar_prover.proofs.Slots.{part-is, part-size}
use Rattle.magnetar_prover.proofs.Whole.{inner-written}
use Rattle.magnetar_prover.proofs.inner.message.Goals as goal

pub returns : goal.returns
returns c =
    let x = c.args in
    let p = c.requires in
    let w = p.table in
    let l = length-take-le x.n x.s.now (omega arith) in
    let k = part-size x.s.now (2 * x.m) x.n (omega arith) in
    c.inner_message-done.ensures.message
    ∙ (inner-written x.out.now (take x.n x.s.now) (take (2 * x.m + x.n - 2 * x.m) (drop (2 * x.m) x.s.now)) w.vars p.out_len (l ∙ w.size) (k
    ∙ sym l) w.var w.few
    ∙ ap (λ (z : List ℕ). words (inner_message 0 (elements (take x.n x.s.now)) (elements z))) (part-is x.s.now (2 * x.m) x.n))
