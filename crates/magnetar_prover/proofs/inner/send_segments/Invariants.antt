use Prim.Native.Nat.{◌*◌, ◌+◌}
use Rattle.magnetar_field.specs.Tabulate.{tabulate}
use Rattle.magnetar_field.specs.Words.{elements}
use Rattle.magnetar_prover.proofs.Segments.{Each}
use Rattle.magnetar_prover.specs.Entries.{table_at}
use Rattle.magnetar_prover.specs.InScratch.{sent_in, segment_in}
use lib.ListN.{length}
use mathlib.Core.Path.{◌≡◌}
use Rattle.magnetar_prover.proofs.inner.send_segments.Given as goal

abbrev pub invariant-loop-i : goal.invariant-loop-i
invariant-loop-i l = (table_at 0 (2 *
    l.w) l.s ≡ table_at 0 (2 * l.w) l.initial.s) × Each "vs-seg-" (tabulate (segment_in l.lens (table_at 0 (2 * l.w) l.initial.s) (elements l.draws))
    (length l.lens)) (sent_in l.k l.initial.u
    l.initial.proof) l.i (sent_in (l.k + l.i) l.u l.proof)
