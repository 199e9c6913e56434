use Rattle.magnetar_hash.specs.Transcript.{field_answer, absorb_answer, unless_late}
use Rattle.magnetar_hash.proofs.Tests.{met, unmet}
use Rattle.magnetar_hash.proofs.transcript.absorb_field.Goals as goal

pub returns-in_err-require : goal.returns-in_err-require
unfolding field_answer
returns-in_err-require c =
    let u = unmet _ _ _ _ _ _ c.require.ensures c.in_err-require.was c.from_residual.ensures.1 in
    rw (u.1, u.0)

pub returns-in_err-on_time : goal.returns-in_err-on_time
unfolding field_answer absorb_answer unless_late
returns-in_err-on_time c =
    let m = met _ _ _ _ _ c.require.ensures c.in_ok-require.was in
    let u = unmet _ _ _ _ _ _ c.on_time.ensures c.in_err-on_time.was c.from_residual-in_err-on_time.ensures.1 in
    rw (u.1, m.0, u.0)

pub returns : goal.returns
unfolding field_answer absorb_answer unless_late
returns c =
    let m = met _ _ _ _ _ c.require.ensures c.in_ok-require.was in
    let n = met _ _ _ _ _ c.on_time.ensures c.in_ok-on_time.was in
    rw (m.0, n.0, c.absorb_words.ensures, n.1)
