use Rattle.magnetar_layout.proofs.Laid.{fits}
use Rattle.magnetar_layout.proofs.layout.build.Goals as goal

pub fill-requires-clause-layout_fits : goal.fill-requires-clause-layout_fits
fill-requires-clause-layout_fits c = fits _ _ c.in_ok-refusal.ensures
