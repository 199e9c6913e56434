use mathlib.Core.Path.{◌∙◌}
use Rattle.std.proofs.lemmas.Nat.{xor_lt}
use Rattle.magnetar_keccak.proofs.Lanes.{moved-from}
use Rattle.magnetar_keccak.proofs.Rotate.{rotated}
use Rattle.magnetar_keccak.specs.State.{◌⊕◌}
use Rattle.magnetar_keccak.proofs.keccak.moved.Goals as goal

pub returns : goal.returns
unfolding ◌⊕◌
returns c =
    let a = c.args in
    c.rotate_left.ensures
    ∙ rotated _ _ (xor_lt 64 _ _ (c.fits-a _) (c.fits-d _))
    ∙ moved-from a.a.now a.d.now a.x a.y c.offset_at.result c.requires.0 c.requires.1 c.requires.2 c.offset_at.ensures
