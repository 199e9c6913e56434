use Rattle.std.specs.Prelude.{◌^◌, ◌<◌}
use Rattle.magnetar_field.specs.Gf128.{value}
use Rattle.magnetar_field.specs.Words.{elements}
use Rattle.magnetar_batch.proofs.Selected.{Selected}
use Rattle.magnetar_batch.proofs.fold.add_word.Given as goal

abbrev pub invariant-loop-left : goal.invariant-loop-left
invariant-loop-left l = (l.left < 2 ^ 64) × Selected l.word l.base (value l.e) (elements l.initial.out) (elements l.out) l.left

abbrev pub decreases-loop-left : goal.decreases-loop-left
decreases-loop-left l = l.left
