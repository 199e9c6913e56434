use Rattle.std.proofs.Common.{take}
use Rattle.std.specs.Fmt.{HasWritten, IsPlainFormatter}
use Rattle.magnetar_replay.specs.Text.{hex_words}
use Rattle.magnetar_replay.proofs.show.SizesDisplay.fmt.Given as goal

abbrev pub invariant-loop-size : goal.invariant-loop-size
invariant-loop-size g l =
    IsPlainFormatter l.initial.f → HasWritten g.W.Write.write_str_gives l.initial.f (hex_words (take l.size-index l.size-items)) l.f
