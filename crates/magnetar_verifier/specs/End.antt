-- The outcome of `end_checks`: the checks 27, 28 and 29, with a value v in place of the six matrices combined at the row points and taken at
-- the inner point, and a value p in place of the public half folded over the logins and taken at the low point.
-- Source: document 01, "Who can be turned back" (1, 4, 8 to 11, 16 and 27 to 29); document 02, U8 (the table is needed at one point only).
-- Assumes nothing.
use Rattle.std.specs.Prelude.{List, ◌++◌, ℕ}
use Rattle.magnetar_field.specs.Words.{elements}
use Rattle.magnetar_matrix.specs.Batch.{Relation}
use Rattle.magnetar_protocol.specs.Draws.{Draws, draws_of}
use Rattle.magnetar_protocol.specs.Shape.{sizes_only}
use Rattle.magnetar_protocol.specs.Checks.{Check, inner_checks_at, identity_check_at}
use Rattle.magnetar_protocol.specs.Found.{Found, first_found, unless_bad}
use Rattle.magnetar_verifier.specs.Outer.{checks_refusal}

-- the checks of the inner rounds, of the claim that they leave, and of v_z
unfoldable pub end_checks : Relation → (w : List ℕ) → Draws → (v p : ℕ) → List Check
end_checks r w d v p = inner_checks_at r w d v ++ identity_check_at r w d p

-- ---- `end_checks`: a relation by its sizes, the words of a proof and of draws, both values
-- the first check that does not pass, unless a test refuses
unfoldable pub end_found : (m q rows_bin rows_fld : ℕ) → (ns proof draws : List ℕ) → (v p : ℕ) → Found
end_found m q b f ns proof draws v p =
    unless_bad (checks_refusal (sizes_only m q b f ns) proof draws)
    (first_found (end_checks (sizes_only m q b f ns) (elements proof) (draws_of (sizes_only m q b f ns) (elements draws)) v p))
