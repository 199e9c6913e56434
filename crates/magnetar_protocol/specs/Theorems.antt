-- What is proved of runs with any elements in the place of the draws: each statement is the type of the law that it names.
-- Source: document 01, "The run" (both halves of demand 3, for any elements in the place of the draws); document 02, U3 (a good
-- batch needs no separate premise on bits outside; an accepted proof keeps it) and U6 (with every login's own public columns).
-- Assumes nothing.
use Rattle.std.specs.Prelude.{◌≡◌, ◌⊎◌, List, ℕ, ◌+◌, ◌*◌, ◌≤◌, max, length, take}
use Rattle.magnetar_matrix.specs.Batch.{Relation, Batch, PublicColumns, NoBitOutside, Good}
use Rattle.magnetar_theory.specs.Count.{natural_sum}
use Rattle.magnetar_protocol.specs.Shape.{log_logins, log_bin, log_fld, log_cols}
use Rattle.magnetar_protocol.specs.Draws.{draw_count}
use Rattle.magnetar_protocol.specs.Run.{verdict, claims, ClaimsTrue}
use Rattle.magnetar_protocol.specs.RunSizes.{SizedRelation, SizedRun, SizedProof}
use Rattle.magnetar_protocol.specs.Soundness.{bad_draws, absorbed_before, BadDraw}
use Rattle.magnetar_protocol.specs.Prover.{CompleteRun}

-- ---- for any elements d in the place of the draws
-- proofs/Soundness `soundness`: where the verifier accepts, no bit is set outside the segments and every claim is true of the batch, the batch
-- is good, or some draw lies in its list of at most three elements
abbrev pub Soundness : (r : Relation) (b : Batch) (x : PublicColumns) (w d : List ℕ) → Type 0
Soundness r b x w d =
    SizedProof r b x w d → verdict r x w d ≡ 0 → NoBitOutside r b → ClaimsTrue r b (claims r w d) → Good r b x ⊎ BadDraw r b x w d

-- proofs/Completeness `completeness`: of a good batch the honest proof is accepted, both ends return the same claims, and all of them are true
abbrev pub Completeness : (r : Relation) (b : Batch) (x : PublicColumns) (d : List ℕ) → Type 0
Completeness r b x d = SizedRun r b x d → Good r b x → CompleteRun r b x d

-- ---- the lists
-- proofs/Soundness `at-most-three`: no list has more than three elements, whatever has been absorbed and drawn
abbrev pub AtMostThree : Type 0
AtMostThree = (r : Relation) (b : Batch) (x : PublicColumns) (absorbed drawn : List ℕ) → length (bad_draws r b x absorbed drawn) ≤ 3

-- proofs/Soundness `all-lists`: all lists along one run together, 4 J + 1 + 2 log m, where 2 ^ J is the logins times the rows of the larger system
abbrev pub AllLists : (r : Relation) (b : Batch) (x : PublicColumns) (w d : List ℕ) → Type 0
AllLists r b x w d =
    SizedRelation r → length d ≡ draw_count r
    → natural_sum (length d) (λ k. length (bad_draws r b x (take (absorbed_before r k) w) (take k d)))
    ≤ 4 * (log_logins r + max (log_bin r) (log_fld r)) + 1 + 2 * log_cols r
