use Prim.Native.Nat.{◌/◌}
use lib.ListN.{length}
use Rattle.magnetar_field.specs.Gf128.{value}
use Rattle.magnetar_field.specs.Words.{elements}
use Rattle.magnetar_verifier.specs.Steps.{shared_bin, shared_fld}
use Rattle.magnetar_verifier.proofs.RoundLaws.{Sharing}
use Rattle.magnetar_verifier.proofs.outer.shared_rounds.Given as goal

abbrev pub invariant-loop-j : goal.invariant-loop-j
invariant-loop-j l =
    let s = length l.challenges / 2 in
    Sharing l.k s (shared_bin s (elements l.proof)) (shared_fld s (elements l.proof)) (elements l.challenges)
    (value l.both.bin) (value l.both.fld) l.j
