use native.Mathlib.Omega.{arith}
use Rattle.magnetar_layout.proofs.Laid.{fits, each-size}
use Rattle.magnetar_layout.proofs.layout.b_i.Goals as goal

pub place-requires-clause-layout_fits : goal.place-requires-clause-layout_fits
place-requires-clause-layout_fits c = fits _ _ c.in_ok-refusal.ensures

pub nonzero_div-result : goal.nonzero_div-result
nonzero_div-result c = (each-size _ _ c.args.i (fits _ _ c.in_ok-refusal.ensures).lengths (omega arith)).least
