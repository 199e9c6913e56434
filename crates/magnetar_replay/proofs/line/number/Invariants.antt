use Rattle.std.proofs.Common.{◌≡◌, take, fold}
use Rattle.magnetar_replay.specs.Words.{with_letter, base_of}
use Rattle.magnetar_replay.proofs.line.number.Given as goal

abbrev pub invariant-loop-c : goal.invariant-loop-c
invariant-loop-c l = l.value ≡ fold (with_letter (base_of l.word)) 0 (take l.c-index l.word)
