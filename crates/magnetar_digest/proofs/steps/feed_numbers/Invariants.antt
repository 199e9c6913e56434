use Rattle.std.proofs.Common.{◌≡◌, [], ◌∷◌, drop}
use Rattle.magnetar_digest.specs.Feeding.{each_fed}
use Rattle.magnetar_digest.proofs.steps.feed_numbers.Given as goal

abbrev pub invariant-loop-n : goal.invariant-loop-n
invariant-loop-n l = each_fed (λ n. n ∷ []) (drop l.n-index l.ns) l.acc ≡ each_fed (λ n. n ∷ []) l.ns l.initial.acc
