use mathlib.Core.Path.{ap, ◌∙◌}
use Prim.Native.Nat.{◌+◌}
use Rattle.std.proofs.lemmas.Result.{IfOk-weaker}
use Rattle.magnetar_field.specs.Words.{elements}
use Rattle.magnetar_protocol.specs.Found.{nothing, after}
use Rattle.magnetar_verifier.proofs.Pieces.{half-of}
use Rattle.magnetar_verifier.proofs.RoundLaws.{phase-is, phase-claim}
use Rattle.magnetar_verifier.proofs.end.inner_rounds.Goals as goal

pub returns-clause-found : goal.returns-clause-found
returns-clause-found c =
    let r = c.args.r in
    let w = elements c.args.proof.now in
    c.rounds.ensures.found ∙ ap (after nothing)
    (phase-is (c.terminals-i.result + 6) 3 r.inner w (half-of r.inner c.piece-4.ensures.size) c.piece-3.ensures.part c.piece-4.ensures.part _ _ _
    ∙ rw (c.dot-claim.ensures, c.piece.ensures.part, c.piece-2.ensures.part, c.alphas-k.ensures, c.terminals-i.ensures, c.outer_events.ensures))

pub returns-clause-claim : goal.returns-clause-claim
returns-clause-claim c =
    let r = c.args.r in
    let w = elements c.args.proof.now in
    IfOk-weaker c.rounds.result _ _
    (λ a h. h
    ∙ phase-claim (c.terminals-i.result + 6) 3 r.inner w (half-of r.inner c.piece-4.ensures.size) c.piece-3.ensures.part c.piece-4.ensures.part _
    ∙ rw (c.dot-claim.ensures, c.piece.ensures.part, c.piece-2.ensures.part, c.alphas-k.ensures, c.terminals-i.ensures))
    c.rounds.ensures.claim
