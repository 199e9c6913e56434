-- The tests of `run_events` behind those of the sizes.
-- Assumes nothing.
use mathlib.Core.List.{List, ◌++◌}
use Prim.Native.Nat.{ℕ, ◌*◌}
use Rattle.magnetar_hash.specs.declared.transcript.Transcript.{Transcript}
use Rattle.magnetar_layout.specs.Tests.{Tests, room_test}
use Rattle.magnetar_protocol.specs.Shape.{sizes_only}
use Rattle.magnetar_protocol.specs.Draws.{draw_count}
use Rattle.magnetar_protocol.specs.RunTests.{counter_tests, proof_tests}

module _ (m q b f : ℕ) (ns p d : List ℕ) (t : Transcript) where
  abbrev pub later : Tests
  later =
      counter_tests t.squeeze_ctr ++ (room_test (2 * draw_count (sizes_only m q b f ns)) d ++ proof_tests (sizes_only m q b f ns) p)
