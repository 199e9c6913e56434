use Prim.Native.Nat.{◌/◌}
use lib.ListN.{length}
use Rattle.magnetar_field.specs.Number.{number}
use Rattle.magnetar_field.specs.Gf128.{value}
use Rattle.magnetar_field.specs.Words.{elements}
use Rattle.magnetar_verifier.specs.Steps.{messages, round_checks}
use Rattle.magnetar_verifier.proofs.RoundLaws.{Going}
use Rattle.magnetar_verifier.proofs.found.rounds.Given as goal

abbrev pub invariant-loop-j : goal.invariant-loop-j
invariant-loop-j l =
    let n = length l.challenges / 2 in
    let ms = messages 0 l.width n (elements l.msgs) in
    Going (value l.initial.claim) ms (elements l.challenges)
    (round_checks (number l.refusal) l.events (value l.initial.claim) ms (elements l.challenges) n) (value l.claim) l.j
