use Rattle.magnetar_verifier.proofs.Points.{answer-value, points_none}
use Rattle.magnetar_verifier.proofs.outer.eq_at.Goals as goal

pub returns : goal.returns
returns c =
    let p = c.requires in
    rw c.unwrap_or.ensures (answer-value c.eq_points.result _ _ _ (points_none _ _ _ p.0 p.1 p.2) c.eq_points.ensures)
