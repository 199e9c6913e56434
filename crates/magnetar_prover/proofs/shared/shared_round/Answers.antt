use Prim.Native.Nat.{◌*◌, ◌≤◌, ℕ}
use Rattle.magnetar_field.proofs.Elements.{elements-length}
use Rattle.magnetar_field.specs.Gf128.{value}
use Rattle.magnetar_field.specs.Words.{elements}
use Rattle.magnetar_hash.specs.Bytes.{word_bytes}
use Rattle.magnetar_hash.specs.Transcript as transcript
use Rattle.magnetar_schedule.specs.Schedule.{numbered}
use Rattle.magnetar_prover.proofs.SharedSteps.{shared-done}
use Rattle.magnetar_prover.proofs.Slots.{part-is}
use lib.ListN.{length}
use mathlib.Core.List.{List}
use mathlib.Core.Path.{◌∙◌, ap}
use native.Mathlib.Omega.{arith}
use Rattle.magnetar_prover.proofs.shared.shared_round.Goals as goal

pub returns : goal.returns
returns c = let x = c.args in
    let p = c.requires in
    let ub = value c.get.result in
    let uf = value c.get-2.result in
    let p₁ = c.send_messages.new.proof in
    let s₁ = c.send_messages.new.s in
    let u = c.shared_round-u.result in
    let g = c.send_messages.ensures in
    let h = c.end_both.ensures in
    let l : x.at.d ≤ length (elements x.draws.now) = rw elements-length (omega (arith, p.s_len.7)) in
    let transcript-is = c.shared_round-u.ensures ∙ ap (λ (w : List ℕ). transcript.drawn
    (transcript.absorbed x.t (numbered "vs-out-shared-" x.i) (word_bytes w)) (numbered "vs-out-shared-" x.i)) (part-is p₁ (2 * x.at.p)
    16 ∙ g.there) in
    rw h.transcript
    (shared-done x.i x.h x.b x.f x.at.o x.at.q x.at.p x.at.d (value x.bin.k) (value c.end_both.result.kb) (value x.fld.k) (value c.end_both.result.kf)
    ub uf x.bin.w x.bin.n x.fld.w x.fld.n x.t u x.proof.now p₁ x.draws.now c.end_both.new.draws
    x.s.now s₁ c.end_both.new.s
    p.shared.0 p.shared.1 p.s_len.3 p.s_len.4 l c.get.ensures c.get-2.ensures transcript-is g.sent h.drawn h.kb h.kf g.bin g.fld h.bin h.fld)
