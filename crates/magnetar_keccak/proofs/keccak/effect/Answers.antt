use borrow.Author.Rules.{rules}
use Rattle.magnetar_keccak.specs.State.{◌⊕◌}
use Rattle.magnetar_keccak.specs.Keccak.{effect}
use Rattle.magnetar_keccak.proofs.Rotate.{rotated}
use Rattle.magnetar_keccak.proofs.keccak.effect.Goals as goal

pub returns : goal.returns
unfolding effect ◌⊕◌
returns c = rw (c.rotate_left.ensures, rotated c.parity-2.result 1 (search rules), c.parity.ensures, c.parity-2.ensures)
