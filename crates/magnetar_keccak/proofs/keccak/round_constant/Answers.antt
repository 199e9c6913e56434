use borrow.Author.Rules.{rules}
use Rattle.magnetar_field.specs.Tabulate.{tabulate}
use Rattle.magnetar_field.proofs.Tabulation.{tabulate-get}
use Rattle.magnetar_keccak.specs.State.{◌⊕◌}
use Rattle.magnetar_keccak.specs.Rounds.{round_constant, constant_bits, rc, register, clock}
use Rattle.magnetar_keccak.proofs.keccak.round_constant.Goals as goal

pub returns : goal.returns
unfolding tabulate round_constant constant_bits rc register clock ◌⊕◌
returns c = tabulate-get round_constant 24 c.args.i 0 (search rules)
