use Rattle.std.proofs.Common.{◌≡◌, drop}
use Rattle.magnetar_matrix.specs.Numbers.{entries_by}
use Rattle.magnetar_digest.specs.Digest.{entry_numbers}
use Rattle.magnetar_digest.specs.Feeding.{each_fed}
use Rattle.magnetar_digest.proofs.digest.feed_entries.Given as goal

-- to feed what is left is to feed all
abbrev pub invariant-loop-i : goal.invariant-loop-i
invariant-loop-i g l =
    each_fed entry_numbers (drop l.i (entries_by (g.E.Entries.numbers l.es))) l.acc ≡ each_fed entry_numbers (entries_by (g.E.Entries.numbers l.es)) l.initial.acc
