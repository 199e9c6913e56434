use mathlib.Core.Path.{refl, sym}
use native.Mathlib.Omega.{arith}
use lib.Seq.{set_out}
use Rattle.magnetar_field.specs.Gf128.{◌⊕◌}
use Rattle.magnetar_matrix.specs.Table.{added_at}
use Rattle.magnetar_matrix.proofs.step.add_word.Goals as goal

pub returns-then-k-out : goal.returns-then-k-out
unfolding added_at ◌⊕◌
returns-then-k-out c = refl

pub returns-else-k-out : goal.returns-else-k-out
unfolding added_at
returns-else-k-out c = sym (set_out c.args.out.now c.args.k _ (omega arith))
