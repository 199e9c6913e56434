use mathlib.Core.Path.{◌∙◌}
use Rattle.magnetar_protocol.proofs.Finding.{handed-found, both-front, both-late}
use Rattle.magnetar_verifier.proofs.outer.terminals.Goals as goal

pub returns-in_err-pass : goal.returns-in_err-pass
returns-in_err-pass c =
    handed-found _ _ c.from_residual.ensures.1
    ∙ both-front _ _ _ (c.in_err-pass.ensures ∙ rw (
      c.terminal_holds-x.ensures,
      c.outer_events.ensures,
      c.piece-shared.ensures.part,
      c.piece.ensures.part,
      c.piece-2.ensures.part,
      c.taus-k.ensures,
      c.terminals-i.ensures,
    ))

pub returns : goal.returns
returns c =
    both-late _ _ (c.in_ok-pass.ensures ∙ rw (
      c.terminal_holds-x.ensures,
      c.outer_events.ensures,
      c.piece-shared.ensures.part,
      c.piece.ensures.part,
      c.piece-2.ensures.part,
      c.taus-k.ensures,
      c.terminals-i.ensures,
    ))
    (c.pass-2.ensures ∙ rw (
      c.terminal_holds-y.ensures,
      c.outer_events-2.ensures,
      c.piece-shared.ensures.part,
      c.piece-3.ensures.part,
      c.piece-4.ensures.part,
      c.taus-k.ensures,
      c.terminals-i.ensures,
    ))
