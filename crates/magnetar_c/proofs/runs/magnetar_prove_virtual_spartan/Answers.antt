use Rattle.magnetar_c.proofs.Handed.{proved-handed}
use Rattle.magnetar_c.proofs.runs.magnetar_prove_virtual_spartan.Goals as goal

pub returns : goal.returns
returns c =
    let e = c.prove_virtual_spartan-answer.ensures in
    let all = proved-handed _ _ _ _ _ _ _ c.answer_out.ensures (e.outcome, e.complete) c.transcript_in.ensures in
    record { outcome = all.0; complete = all.1 }
