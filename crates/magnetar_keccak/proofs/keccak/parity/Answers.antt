use native.Mathlib.Nat.{zero-add}
use Rattle.magnetar_keccak.specs.State.{◌⊕◌}
use Rattle.magnetar_keccak.specs.Keccak.{parity}
use Rattle.magnetar_keccak.proofs.keccak.parity.Goals as goal

pub returns : goal.returns
unfolding parity ◌⊕◌
returns c = rw zero-add
