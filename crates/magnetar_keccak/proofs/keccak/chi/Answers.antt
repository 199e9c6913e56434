use mathlib.Core.Path.{refl}
use Rattle.magnetar_keccak.specs.State.{◌⊕◌, ◌·◌, complement}
use Rattle.magnetar_keccak.proofs.keccak.chi.Goals as goal

pub returns : goal.returns
unfolding ◌⊕◌ ◌·◌ complement
returns c = refl
