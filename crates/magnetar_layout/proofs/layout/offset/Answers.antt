use Rattle.magnetar_layout.proofs.Laid.{fits}
use Rattle.magnetar_layout.proofs.layout.offset.Goals as goal

pub place-requires-clause-layout_fits : goal.place-requires-clause-layout_fits
place-requires-clause-layout_fits c = fits _ _ c.in_ok-refusal.ensures
