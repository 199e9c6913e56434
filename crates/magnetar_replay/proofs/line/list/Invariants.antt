use Rattle.std.proofs.Common.{◌≡◌, ◌-◌}
use Rattle.magnetar_replay.specs.Lists.{list_at}
use Rattle.magnetar_replay.proofs.line.list.Given as goal

abbrev pub invariant-loop : goal.invariant-loop
invariant-loop l = list_at l.rest (l.k - l.counter) ≡ list_at l.fn.nums l.fn.k
