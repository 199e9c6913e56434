use Prim.Native.Nat.{◌*◌, ℕ}
use Rattle.magnetar_field.specs.Gf128.{value}
use Rattle.magnetar_field.specs.Words.{words}
use Rattle.magnetar_prover.proofs.Blocks.{behind-dropped, both-sent, both-there, front-dropped, lent-behind, rest-length}
use Rattle.magnetar_prover.proofs.RowSteps.{outer-four}
use Rattle.magnetar_prover.specs.Shared.{message_in}
use lib.ListN.{drop, length, take}
use lib.Seq.{length-take-le}
use mathlib.Core.List.{List}
use mathlib.Core.Path.{◌∙◌, ◌≡◌, ap}
use native.Mathlib.Omega.{arith}
use Rattle.magnetar_prover.proofs.shared.send_messages.Goals as goal

pub returns : goal.returns
returns c = let x = c.args in
    let p = c.requires in
    let one : length c.message.new.s ≡ 4 * x.bin.w = c.message.auto.s ∙ length-take-le _ _ (omega
    arith) in
    let lent = lent-behind x.s.now c.message.new.s (4 * x.bin.w) (4 * x.fld.w) p.s_len.0 one in
    let two : length c.message-2.new.s ≡ 4 * x.fld.w = c.message-2.auto.s
    ∙ (ap length lent ∙ rest-length x.s.now c.message.new.s (4 * x.bin.w) (4 * x.fld.w) p.s_len.0 one) in
    let f = c.message.ensures in
    let g = c.message-2.ensures in
    let v = message_in x.bin.v (value x.bin.k) (value x.bin.t) x.bin.w x.bin.n (take (4 * x.bin.w) x.s.now) in
    let w = message_in x.fld.v (value x.fld.k) (value x.fld.t) x.fld.w x.fld.n (drop (4 * x.bin.w) x.s.now) in
    let so : c.message-2.new.out ≡ words w = g.written ∙ ap (λ (l : List ℕ). words (message_in x.fld.v (value x.fld.k) (value x.fld.t) x.fld.w x.fld.n
    l)) lent in record {
      sent = both-sent x.proof.now c.message.new.out c.message-2.new.out v w x.p p.s_len.6 (outer-four x.bin.v _ _ _ _ _ _) (outer-four x.fld.v _ _ _ _ _ _)
          f.written so;
      there = both-there x.proof.now c.message.new.out c.message-2.new.out v w x.p p.s_len.6 (outer-four x.bin.v _ _ _ _ _ _) (outer-four x.fld.v _ _ _ _ _
          _) f.written so;
      bin = front-dropped x.s.now c.message.new.s
          c.message-2.new.s (4 * x.bin.w) (4 * x.fld.w) p.s_len.0 one two f.dropped;
      fld = behind-dropped x.s.now c.message.new.s c.message-2.new.s (4 * x.bin.w) (4 * x.fld.w) p.s_len.0 one two g.dropped;
    }
