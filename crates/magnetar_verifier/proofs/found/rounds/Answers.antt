use mathlib.Core.Path.{◌∙◌}
use Prim.Native.Nat.{◌/◌, ◌<◌}
use native.Mathlib.Omega.{arith}
use lib.ListN.{length}
use Rattle.magnetar_field.specs.Gf128.{value}
use Rattle.magnetar_field.specs.Number.{number}
use Rattle.magnetar_field.specs.Words.{elements}
use Rattle.magnetar_field.proofs.Elements.{elements-length}
use Rattle.magnetar_protocol.proofs.Finding.{handed-found}
use Rattle.magnetar_verifier.specs.Steps.{messages}
use Rattle.magnetar_verifier.proofs.Pieces.{message-within}
use Rattle.magnetar_verifier.proofs.RoundLaws.{going_start, going_more, going-stop, going_end, messages-length, message-is}
use Rattle.magnetar_verifier.proofs.found.rounds.Goals as goal

pub loop-j-init : goal.loop-j-init
loop-j-init c = going_start _ _ _ _

pub overflow_mul-width : goal.overflow_mul-width
overflow_mul-width c =
    let x = c.args in
    omega (arith, message-within 0 x.width (length x.challenges.now / 2) c.loop-j.j (omega arith))

pub piece-requires : goal.piece-requires
piece-requires c =
    let x = c.args in
    omega (arith, message-within 0 x.width (length x.challenges.now / 2) c.loop-j.j (omega arith))

pub returns-in_err-claim-clause-found : goal.returns-in_err-claim-clause-found
returns-in_err-claim-clause-found c =
    let x = c.args in
    let l = c.loop-j in
    let n = length x.challenges.now / 2 in
    let h : l.j < n = omega arith in
    handed-found _ _ c.from_residual.ensures.1
    ∙ going-stop (number x.refusal) x.events (value x.claim) (messages 0 x.width n (elements x.msgs.now)) (elements x.challenges.now) n
    (value l.claim) l.j l.invariant c.in_err-claim.field-0.0 (elements c.piece.result.now) h
    (c.piece.ensures.part ∙ message-is x.width n (elements x.msgs.now) l.j h) c.in_err-claim.ensures.found

pub loop-j-preserved : goal.loop-j-preserved
loop-j-preserved c =
    let x = c.args in
    let l = c.loop-j in
    let n = length x.challenges.now / 2 in
    let h : l.j < n = omega arith in
    let ms = messages 0 x.width n (elements x.msgs.now) in
    going_more (number x.refusal) x.events (value x.claim) ms (elements x.challenges.now) n
    (value l.claim) l.j l.invariant (elements c.piece.result.now) h
    (c.piece.ensures.part ∙ message-is x.width n (elements x.msgs.now) l.j h) c.in_ok-claim.ensures.found
    (messages-length 0 x.width n (elements x.msgs.now)) (elements-length x.challenges.now) (value c.get.result) _ c.get.ensures c.in_ok-claim.ensures.claim

pub returns : goal.returns
returns c =
    let x = c.args in
    let l = c.loop-j in
    let n = length x.challenges.now / 2 in
    let ms = messages 0 x.width n (elements x.msgs.now) in
    let all = going_end (number x.refusal) x.events (value x.claim) ms (elements x.challenges.now) n (value l.claim) l.j l.invariant (omega arith)
    (messages-length 0 x.width n (elements x.msgs.now)) (elements-length x.challenges.now) in
    record { found = all.0; claim = all.1 }
