use Rattle.magnetar_field.specs.Tabulate.{tabulate}
use Rattle.magnetar_keccak.proofs.keccak.effects.Goals as goal

pub returns : goal.returns
unfolding tabulate
returns c = cc
