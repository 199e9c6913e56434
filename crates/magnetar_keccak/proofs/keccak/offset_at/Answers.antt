use Prim.Native.Nat.{◌/◌, ◌%◌}
use borrow.Author.Rules.{rules}
use Rattle.magnetar_field.specs.Tabulate.{tabulate}
use Rattle.magnetar_field.proofs.Tabulation.{tabulate-get}
use Rattle.magnetar_keccak.specs.Offsets.{offset, offset_on_walk}
use Rattle.magnetar_keccak.proofs.keccak.offset_at.Goals as goal

pub returns : goal.returns
unfolding tabulate offset offset_on_walk
returns c = tabulate-get (λ i. offset (i % 5) (i / 5) % 64) 25 c.args.i 0 (search rules)
