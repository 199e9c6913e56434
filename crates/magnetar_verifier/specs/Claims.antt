-- The outcome of `write_claims`: the claims of a run, as words at the front of the claims buffer.
-- Source: document 01, "The run" (the claims buffer) and "Who can be turned back".
-- Assumes nothing.
use Rattle.std.specs.Prelude.{List, ◌++◌, ℕ, ◌*◌, drop}
use Rattle.magnetar_field.specs.Refusal.{unless_refused}
use Rattle.magnetar_field.specs.Words.{elements, words}
use Rattle.magnetar_layout.specs.Tests.{first_refusal, room_test}
use Rattle.magnetar_protocol.specs.Shape.{claim_count, sizes_only}
use Rattle.magnetar_protocol.specs.Run.{claims}
use Rattle.magnetar_protocol.specs.RunTests.{outline_tests, draw_tests, proof_tests}

-- ---- `write_claims`: a relation by its sizes, the words of a proof and of draws, the output out
unfoldable pub claims_refusal : (m q rows_bin rows_fld : ℕ) → (ns proof draws out : List ℕ) → ℕ
claims_refusal m q b f ns proof draws out =
    first_refusal 0
    (outline_tests m q b f ns
    ++ (draw_tests (sizes_only m q b f ns) draws ++ (room_test (2 * claim_count (sizes_only m q b f ns)) out ++ proof_tests (sizes_only m q b f ns) proof)))

-- what out holds at exit
unfoldable pub claims_out : (m q rows_bin rows_fld : ℕ) → (ns proof draws out : List ℕ) → List ℕ
claims_out m q b f ns proof draws out =
    unless_refused (claims_refusal m q b f ns proof draws out)
    (words (claims (sizes_only m q b f ns) (elements proof) (elements draws)) ++ drop (2 * claim_count (sizes_only m q b f ns)) out) out
