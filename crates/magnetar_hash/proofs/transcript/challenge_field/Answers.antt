use Rattle.magnetar_hash.specs.Transcript.{draw_answer}
use Rattle.magnetar_hash.proofs.Tests.{met, unmet}
use Rattle.magnetar_hash.proofs.transcript.challenge_field.Goals as goal

pub returns-in_err-on_time : goal.returns-in_err-on_time
unfolding draw_answer
returns-in_err-on_time c =
    let u = unmet _ _ _ _ _ _ c.on_time.ensures c.in_err-on_time.was c.from_residual.ensures.1 in
    rw (u.1, u.0)

pub returns : goal.returns
unfolding draw_answer
returns c =
    let n = met _ _ _ _ _ c.on_time.ensures c.in_ok-on_time.was in
    rw (n.0, c.element.ensures, c.draw-transcript.ensures, n.1)
