use native.Mathlib.Omega.{arith}
use Rattle.magnetar_layout.specs.Entries.{layout_refusal}
use Rattle.magnetar_layout.specs.Tests.{or_refuse}
use Rattle.magnetar_layout.proofs.Laid.{half-size}
use Rattle.magnetar_layout.proofs.layout.refusal.Goals as goal

pub returns : goal.returns
unfolding layout_refusal or_refuse
returns c = grind (arith, half-size)
