-- The verifier's answer and its stop in two blocks, before and after the alphas; and what depends on the sizes of a relation alone is
-- the same at its outline.
-- Assumes nothing.
use mathlib.Core.Path.{◌≡◌, refl, sym, ap, ◌∙◌}
use mathlib.Core.Bool.{Bool, true, false, cond}
use mathlib.Core.List.{List, [], ◌∷◌, ◌++◌, append_assoc}
use Prim.Native.Nat.{ℕ, zero, suc, ◌+◌, ◌*◌, ◌/◌, ◌<◌}
use native.Mathlib.Omega.{arith}
use lib.Dec.{eqb, lit<}
use lib.ListN.{length}
use borrow.Author.Tests.{ne_eqb}
use Rattle.magnetar_matrix.specs.Batch.{Relation, PublicColumns, public_folded}
use Rattle.magnetar_protocol.specs.Shape.{log_logins, sizes_only, after_taus}
use Rattle.magnetar_protocol.specs.Proof.{bin_messages, fld_messages, value_z, segment_values}
use Rattle.magnetar_protocol.specs.Draws.{Draws, draws_of, login_point, low_point, top_element}
use Rattle.magnetar_schedule.specs.Schedule.{schedule}
use Rattle.magnetar_protocol.specs.Checks.{Check, combined, bin_round, fld_round, first_failure, first_stop, checks, shared_checks, row_checks, terminal_checks, inner_checks, identity_check}
use Rattle.magnetar_protocol.specs.Run.{verdict, claims}
use Rattle.magnetar_schedule.specs.RealRun.{stop}
use Rattle.magnetar_protocol.proofs.Phases.{Numbered, numbered-append, or_else, first-append, shared-numbered, rows-numbered, terminals-numbered, inner-numbered}

-- ---- the stop of two lists of checks
pub stop-append : (cs ds : List Check) (n k : ℕ) → Numbered cs
    → first_stop (cs ++ ds) n ≡ cond (eqb (first_failure cs) 0) (first_stop ds n) (first_stop cs k)
unfolding first_stop first_failure
stop-append [] ds n k h = refl
stop-append (c ∷ cs) ds n k h =
    step c.passes c.refusal c.events (first_stop (cs ++ ds) n) (first_failure cs) (first_stop ds n) (first_stop cs k) h.0
    (stop-append cs ds n k h.1)
  where
    step : (p : Bool) (m e both a b s : ℕ) → 0 < m → both ≡ cond (eqb a 0) b s → cond p both e ≡ cond (eqb (cond p a m) 0) b (cond p s e)
    step true m e both a b s l q = q
    step false m e both a b s l q = rw (ne_eqb m 0 (λ z. omega arith))

-- where every check passes, nothing stops
pub stop-none : (cs : List Check) (n : ℕ) → Numbered cs → first_failure cs ≡ 0 → first_stop cs n ≡ n
unfolding first_stop first_failure
stop-none [] n h e = refl
stop-none (c ∷ cs) n h e = step c.passes c.refusal c.events (first_failure cs) (first_stop cs n) n h.0 e (stop-none cs n h.1)
  where
    step : (p : Bool) (m e a s n : ℕ) → 0 < m → cond p a m ≡ 0 → (a ≡ 0 → s ≡ n) → cond p s e ≡ n
    step true m e a s n l z q = q z
    step false m e a s n l z q = absurd (omega arith)

-- ---- the two blocks
module _ (r : Relation) (x : PublicColumns) (w : List ℕ) (D : Draws) where
  -- the outer rounds and the terminals
  abbrev pub outer_checks : List Check
  outer_checks = shared_checks r w D 0 (log_logins r) ++ (row_checks r w D ++ terminal_checks r w D)

  -- the inner rounds and the identity of the segments
  abbrev pub later_checks : List Check
  later_checks = inner_checks r w D (combined r D) ++ identity_check r w D (public_folded r.q (r.m / 2) x (login_point D))

  pub checks-are : checks r x w D ≡ outer_checks ++ later_checks
  unfolding checks
  checks-are =
      ap (λ (l : List Check). shared_checks r w D 0 (log_logins r) ++ l)
      (sym (append_assoc (row_checks r w D) (terminal_checks r w D) later_checks))
      ∙ sym (append_assoc (shared_checks r w D 0 (log_logins r)) (row_checks r w D ++ terminal_checks r w D) later_checks)

  pub outer-numbered : Numbered outer_checks
  outer-numbered =
      numbered-append (shared_checks r w D 0 (log_logins r)) (row_checks r w D ++ terminal_checks r w D)
      (shared-numbered r w D 0 (log_logins r))
      (numbered-append (row_checks r w D) (terminal_checks r w D) (rows-numbered r w D) (terminals-numbered r w D))

  pub later-numbered : Numbered later_checks
  later-numbered =
      numbered-append (inner_checks r w D (combined r D)) (identity_check r w D (public_folded r.q (r.m / 2) x (login_point D))) (inner-numbered r w D)
      (unfold identity_check in (lit< tt, tt))

  pub refusal-blocks : first_failure (checks r x w D) ≡ or_else (first_failure outer_checks) (first_failure later_checks)
  refusal-blocks = ap first_failure checks-are ∙ first-append outer_checks later_checks outer-numbered

  pub stop-blocks : (n k : ℕ)
      → first_stop (checks r x w D) n ≡ cond (eqb (first_failure outer_checks) 0) (first_stop later_checks n) (first_stop outer_checks k)
  stop-blocks n k = ap (λ (l : List Check). first_stop l n) checks-are ∙ stop-append outer_checks later_checks n k outer-numbered

  pub checks-numbered : Numbered (checks r x w D)
  checks-numbered = rw checks-are (numbered-append outer_checks later_checks outer-numbered later-numbered)

-- the same of the answer and the stop of a run
module _ (r : Relation) (x : PublicColumns) (w d : List ℕ) where
  pub verdict-blocks : verdict r x w d ≡ or_else (first_failure (outer_checks r x w (draws_of r d))) (first_failure (later_checks r x w (draws_of r d)))
  unfolding verdict
  verdict-blocks = refusal-blocks r x w (draws_of r d)

  pub run-stop-blocks : (k : ℕ)
      → stop r x w d
      ≡ cond (eqb (first_failure (outer_checks r x w (draws_of r d))) 0) (first_stop (later_checks r x w (draws_of r d)) (length (schedule r)))
      (first_stop (outer_checks r x w (draws_of r d)) k)
  unfolding stop
  run-stop-blocks k = stop-blocks r x w (draws_of r d) (length (schedule r)) k

  -- an accepted run plays the whole schedule
  pub stop-accepted : verdict r x w d ≡ 0 → stop r x w d ≡ length (schedule r)
  unfolding verdict stop
  stop-accepted e = stop-none (checks r x w (draws_of r d)) (length (schedule r)) (checks-numbered r x w (draws_of r d)) e

-- ---- the outline
abbrev pub outlined : Relation → Relation
outlined r = sizes_only r.m r.q r.bin.a.rows r.fld.a.rows r.lengths

module _ (r : Relation) where
  pub schedule-outlined : schedule r ≡ schedule (outlined r)
  unfolding schedule
  schedule-outlined = refl

  pub draws-outlined : (d : List ℕ) → draws_of r d ≡ draws_of (outlined r) d
  unfolding draws_of
  draws-outlined d = refl

  pub claims-outlined : (w d : List ℕ) → claims r w d ≡ claims (outlined r) w d
  unfolding claims draws_of low_point segment_values
  claims-outlined w d = refl

  module _ (w : List ℕ) (D : Draws) where
    pub shared-outlined : (i n : ℕ) → shared_checks r w D i n ≡ shared_checks (outlined r) w D i n
    unfolding shared_checks bin_messages fld_messages
    shared-outlined i zero = refl
    shared-outlined i (suc n) = λ j.
        record { refusal = 21; passes = bin_round r w D i; events = after_taus r + 2 * suc i }
        ∷ record { refusal = 22; passes = fld_round r w D i; events = after_taus r + 2 * suc i }
        ∷ shared-outlined (suc i) n j

    pub rows-outlined : row_checks r w D ≡ row_checks (outlined r) w D
    unfolding row_checks bin_messages fld_messages
    rows-outlined = refl

    pub terminals-outlined : terminal_checks r w D ≡ terminal_checks (outlined r) w D
    unfolding terminal_checks bin_messages fld_messages
    terminals-outlined = refl

    pub identity-outlined : (half : List ℕ) → identity_check r w D half ≡ identity_check (outlined r) w D half
    unfolding identity_check low_point top_element value_z segment_values
    identity-outlined half = refl
