use mathlib.Core.Path.{refl}
use Rattle.magnetar_c.proofs.Handed.{verified-handed}
use Rattle.magnetar_c.proofs.runs.magnetar_verify_virtual_spartan.Goals as goal

pub returns : goal.returns
returns c =
    let e = c.verify_virtual_spartan.ensures in
    let all = verified-handed _ _ _ _ _ _ c.verified_out.ensures refl (e.outcome, (e.bound, e.sound)) c.transcript_in.ensures in
    record { outcome = all.0; bound = all.1.0; sound = all.1.1 }
