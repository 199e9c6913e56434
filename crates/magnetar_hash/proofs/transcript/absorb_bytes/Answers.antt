use Rattle.magnetar_hash.specs.Bytes.{ascii}
use Rattle.magnetar_hash.specs.Transcript.{absorbed, absorb_answer, unless_late}
use Rattle.magnetar_hash.proofs.Parts.{four-parts}
use Rattle.magnetar_hash.proofs.Tests.{met, unmet}
use Rattle.magnetar_hash.proofs.transcript.absorb_bytes.Goals as goal

pub returns-in_err-on_time : goal.returns-in_err-on_time
unfolding absorb_answer unless_late
returns-in_err-on_time c =
    let u = unmet _ _ _ _ _ _ c.on_time.ensures c.in_err-on_time.was c.from_residual.ensures.1 in
    rw (u.1, u.0)

pub returns : goal.returns
unfolding absorb_answer absorbed ascii unless_late
returns c =
    let a = c.args in
    let m = met _ _ _ _ _ c.on_time.ensures c.in_ok-on_time.was in
    let f = rw m.1 at c.headed-sponge.ensures in
    rw (m.0, c.undrawn.ensures, c.finish.ensures, four-parts a.t.state (ascii "absorb") a.label.now a.bytes.now f c.feed_part.ensures)
