-- The outcome of `outer_checks`: the checks 21 to 26.
-- Source: document 01, "Who can be turned back" (1, 4, 10, 11, 16 and 21 to 26).
-- Assumes nothing.
use Rattle.std.specs.Prelude.{List, ◌++◌, ℕ}
use Rattle.magnetar_field.specs.Words.{elements}
use Rattle.magnetar_matrix.specs.Batch.{Relation}
use Rattle.magnetar_layout.specs.Tests.{first_refusal}
use Rattle.magnetar_protocol.specs.Shape.{log_logins, sizes_only}
use Rattle.magnetar_protocol.specs.Draws.{Draws, draws_of}
use Rattle.magnetar_protocol.specs.RunTests.{outline_tests, draw_tests, proof_tests}
use Rattle.magnetar_protocol.specs.Checks.{Check, shared_checks, row_checks, terminal_checks}
use Rattle.magnetar_protocol.specs.Found.{Found, first_found, unless_bad}

-- the checks 21 to 26
unfoldable pub outer_checks : Relation → List ℕ → Draws → List Check
outer_checks r w D = shared_checks r w D 0 (log_logins r) ++ (row_checks r w D ++ terminal_checks r w D)

-- ---- `outer_checks`: a relation r by its sizes, the words of a proof and of draws
-- the number of the refusal, the same one for `end_checks`
unfoldable pub checks_refusal : Relation → (proof draws : List ℕ) → ℕ
checks_refusal r proof draws =
    first_refusal 0
    (outline_tests r.m r.q r.bin.a.rows r.fld.a.rows r.lengths ++ (draw_tests r draws ++ proof_tests r proof))

-- the first check that does not pass, unless a test refuses
unfoldable pub outer_found : (m q rows_bin rows_fld : ℕ) → List ℕ → List ℕ → List ℕ → Found
outer_found m q b f ns proof draws =
    unless_bad (checks_refusal (sizes_only m q b f ns) proof draws)
    (first_found (outer_checks (sizes_only m q b f ns) (elements proof) (draws_of (sizes_only m q b f ns) (elements draws))))
