use mathlib.Core.Path.{◌∙◌}
use Rattle.magnetar_protocol.proofs.Finding.{handed-found, both-front, both-late}
use Rattle.magnetar_verifier.proofs.outer.shared_round.Goals as goal

pub returns-in_err-bin-clause-found : goal.returns-in_err-bin-clause-found
returns-in_err-bin-clause-found c =
    handed-found _ _ c.from_residual.ensures.1 ∙ both-front _ _ _ (c.in_err-bin.ensures.found ∙ rw c.piece.ensures.part)

pub returns-in_err-fld-clause-found : goal.returns-in_err-fld-clause-found
returns-in_err-fld-clause-found c =
    handed-found _ _ c.from_residual-in_err-fld.ensures.1
    ∙ both-late _ _ (c.in_ok-bin.ensures.found ∙ rw c.piece.ensures.part) (c.in_err-fld.ensures.found ∙ rw c.piece-2.ensures.part)

pub returns : goal.returns
returns c =
    let p = c.piece.ensures.part in
    let q = c.piece-2.ensures.part in record {
      found = both-late _ _ (c.in_ok-bin.ensures.found ∙ rw p) (c.in_ok-fld.ensures.found ∙ rw q);
      claims = (c.in_ok-bin.ensures.claim ∙ rw p, c.in_ok-fld.ensures.claim ∙ rw q);
    }
