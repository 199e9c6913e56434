-- The verifier's answer and transcript from what its two groups of checks find.
-- Assumes nothing.
use mathlib.Core.Path.{◌≡◌, refl, sym, ap, ap₂, ◌∙◌}
use mathlib.Core.List.{List, [], ◌++◌, append-nil}
use Prim.Native.Nat.{ℕ, ◌/◌, ◌≤◌}
use native.Mathlib.Omega.{arith}
use lib.ListN.{length, take}
use lib.Seq.{take_all}
use borrow.Author.Tests.{ne_eqb}
use Rattle.magnetar_field.specs.Words.{elements}
use Rattle.magnetar_hash.specs.declared.transcript.Transcript.{Transcript}
use Rattle.magnetar_matrix.specs.Batch.{Relation, PublicColumns, public_folded}
use Rattle.magnetar_protocol.specs.Shape.{log_logins}
use Rattle.magnetar_multilinear.specs.Multilinear.{mle}
use Rattle.magnetar_protocol.specs.Proof.{inner_rounds, value_z, terminals, segment_values}
use Rattle.magnetar_protocol.specs.Draws.{Draws, draws_of, login_point, low_point, top_element}
use Rattle.magnetar_schedule.specs.Schedule.{Event, schedule}
use Rattle.magnetar_schedule.specs.ScheduleRun.{RunState, run_from}
use Rattle.magnetar_protocol.specs.Checks.{Check, first_failure, first_stop, shared_checks, row_checks, terminal_checks, inner_checks, identity_check}
use Rattle.magnetar_protocol.specs.Checks.{inner_claim, combined}
use Rattle.magnetar_protocol.specs.Run.{verdict}
use Rattle.magnetar_schedule.specs.RealRun.{verifier_draws, verifier_transcript, stop}
use Rattle.magnetar_protocol.proofs.Phases.{Numbered}
use Rattle.magnetar_schedule.proofs.Counts.{schedule-length}
use Rattle.magnetar_schedule.proofs.Blocks.{outer_checks, later_checks, later-numbered, verdict-blocks, run-stop-blocks, stop-append, stop-accepted}
use Rattle.magnetar_schedule.proofs.Blocks.{outlined, schedule-outlined, draws-outlined, shared-outlined, rows-outlined, terminals-outlined}
use Rattle.magnetar_verifier.specs.End.{end_checks}
use Rattle.magnetar_relation.specs.Rules.{Rules, relation_of}
use Rattle.magnetar_field.proofs.Log2.{log₂-lt}
use Rattle.magnetar_spartan.specs.Refusals.{rows_bin, rows_fld, sizes_only_of}
use Rattle.magnetar_spartan.specs.ValidRules.{ValidRules}
use Rattle.magnetar_spartan.specs.Outcome.{verify_verdict, columns_of}

pub sizes-are : (R : Rules) → outlined (relation_of R) ≡ sizes_only_of R
sizes-are R = refl

pub schedule-is : (R : Rules) → schedule (relation_of R) ≡ schedule (sizes_only_of R)
schedule-is R = schedule-outlined (relation_of R) ∙ ap schedule (sizes-are R)

pub draws-is : (R : Rules) (d : List ℕ) → draws_of (relation_of R) d ≡ draws_of (sizes_only_of R) d
draws-is R d = draws-outlined (relation_of R) d ∙ ap (λ (r : Relation). draws_of r d) (sizes-are R)

-- ---- the draws
module _ (R : Rules) (w : List ℕ) (t : Transcript) where
  -- the whole schedule
  pub played-all : (k : ℕ) → length (schedule (sizes_only_of R)) ≤ k
      → run_from w (take k (schedule (sizes_only_of R))) t ≡ run_from w (schedule (relation_of R)) t
  played-all k h = ap (λ (es : List Event). run_from w es t) (take_all k (schedule (sizes_only_of R)) h ∙ sym (schedule-is R))

-- ---- the outer checks
module _ (R : Rules) (x : PublicColumns) (w : List ℕ) (D : Draws) where
  pub outer-is : shared_checks (sizes_only_of R) w D 0 (log_logins (sizes_only_of R)) ++
      (row_checks (sizes_only_of R) w D ++ terminal_checks (sizes_only_of R) w D)
      ≡ outer_checks (relation_of R) x w D
  outer-is =
      outlines (λ (r : Relation). shared_checks r w D 0 (log_logins r) ++ (row_checks r w D ++ terminal_checks r w D))
      ∙ sym (ap₂ ◌++◌ (shared-outlined (relation_of R) w D 0 (log_logins (relation_of R)))
      (ap₂ ◌++◌ (rows-outlined (relation_of R) w D) (terminals-outlined (relation_of R) w D)))
    where
      outlines : (f : Relation → List Check) → f (sizes_only_of R) ≡ f (outlined (relation_of R))
      outlines f = ap f (sym (sizes-are R))

-- ---- the answer
-- where a check does not pass, what comes behind does not matter
stop-any : (cs : List Check) (n k : ℕ) → Numbered cs → (first_failure cs ≡ 0 → ⊥) → first_stop cs n ≡ first_stop cs k
stop-any cs n k m h =
    ap (λ (l : List Check). first_stop l n) (sym (append-nil cs)) ∙ stop-append cs [] n k m ∙ rw (ne_eqb (first_failure cs) 0 h)

module _ (R : Rules) (x w : List ℕ) (t : Transcript) where
  abbrev rel : Relation
  rel = relation_of R

  abbrev drawn : List ℕ
  drawn = verifier_draws rel (elements w) t

  abbrev pub outer_of : List Check
  outer_of = outer_checks rel (columns_of R x) (elements w) (draws_of rel drawn)

  abbrev pub later_of : List Check
  later_of = later_checks rel (columns_of R x) (elements w) (draws_of rel drawn)

  -- the transcript after n events
  abbrev pub after : ℕ → Transcript
  after n = (run_from (elements w) (take n (schedule (sizes_only_of R))) t).transcript

  -- what the run answers
  abbrev pub Answers : ℕ → Transcript → Type 0
  Answers c u = (c ≡ verify_verdict R x w t) × (u ≡ verifier_transcript rel (columns_of R x) (elements w) t)

  stopped : (n : ℕ) → n ≡ stop rel (columns_of R x) (elements w) drawn → after n ≡ verifier_transcript rel (columns_of R x) (elements w) t
  unfolding verifier_transcript
  stopped n e = ap₂ (λ (es : List Event) (k : ℕ). (run_from (elements w) (take k es) t).transcript) (sym (schedule-is R)) e

  -- some outer check does not pass
  pub answer-outer : (c n : ℕ) → c ≡ first_failure outer_of → n ≡ first_stop outer_of 0 → (c ≡ 0 → ⊥) → Answers c (after n)
  unfolding verify_verdict
  answer-outer c n e f h =
      let a : c ≡ verdict rel (columns_of R x) (elements w) drawn =
      sym (verdict-blocks rel (columns_of R x) (elements w) drawn ∙ rw (← e, ne_eqb c 0 h)) in
      let b : n ≡ stop rel (columns_of R x) (elements w) drawn =
      f ∙ sym (run-stop-blocks rel (columns_of R x) (elements w) drawn 0 ∙ rw (← e, ne_eqb c 0 h)) in
      (a, stopped n b)

  -- the outer checks pass, and some later one does not
  pub answer-later : (c n : ℕ) → first_failure outer_of ≡ 0 → c ≡ first_failure later_of → n ≡ first_stop later_of 0 → (c ≡ 0 → ⊥)
      → Answers c (after n)
  unfolding verify_verdict
  answer-later c n z e f h =
      let a : c ≡ verdict rel (columns_of R x) (elements w) drawn =
      sym (verdict-blocks rel (columns_of R x) (elements w) drawn ∙ rw (z, ← e)) in
      let g = stop-any later_of (length (schedule rel)) 0 (later-numbered rel (columns_of R x) (elements w) (draws_of rel drawn)) (λ k. h (e ∙ k)) in
      let b : n ≡ stop rel (columns_of R x) (elements w) drawn =
      f ∙ sym (run-stop-blocks rel (columns_of R x) (elements w) drawn 0 ∙ rw z g) in
      (a, stopped n b)

  -- every check passes
  pub answer-none : (k : ℕ) → first_failure outer_of ≡ 0 → first_failure later_of ≡ 0 → length (schedule (sizes_only_of R)) ≤ k → Answers 0 (after k)
  unfolding verify_verdict
  answer-none k z e h =
      let a : verdict rel (columns_of R x) (elements w) drawn ≡ 0 = verdict-blocks rel (columns_of R x) (elements w) drawn ∙ rw (z, e) in
      let l : length (schedule (sizes_only_of R)) ≤ length (schedule rel) = rw (schedule-is R) (omega arith) in (
        sym a,
        whole k h ∙ sym (whole (length (schedule rel)) l)
            ∙ stopped (length (schedule rel)) (sym (stop-accepted rel (columns_of R x) (elements w) drawn a)),
      )
    where
      whole : (k : ℕ) → length (schedule (sizes_only_of R)) ≤ k → after k ≡ (run_from (elements w) (schedule rel) t).transcript
      whole k h = ap (λ (p : RunState). p.transcript) (played-all R (elements w) t k h)

-- ---- the later checks, by the value of the combined table and that of the folded half
end-outlined : (r : Relation) (w : List ℕ) (D : Draws) (v p : ℕ) → end_checks r w D v p ≡ end_checks (outlined r) w D v p
unfolding end_checks inner_claim inner_rounds value_z terminals low_point top_element segment_values
end-outlined r w D v p = refl

pub later-is : (R : Rules) (x : PublicColumns) (w : List ℕ) (D : Draws) (v p : ℕ) → v ≡ mle (combined (relation_of R) D) D.inner
    → p ≡ mle (public_folded R.q (R.m / 2) x (login_point D)) (low_point (relation_of R) D)
    → end_checks (sizes_only_of R) w D v p ≡ later_checks (relation_of R) x w D
unfolding end_checks inner_checks identity_check
later-is R x w D v p ev ep =
    ap (λ (r : Relation). end_checks r w D v p) (sym (sizes-are R)) ∙ (sym (end-outlined (relation_of R) w D v p) ∙ ap₂ (end_checks (relation_of R) w D) ev ep)

-- ---- a schedule is short
pub schedule-small : (R : Rules) → ValidRules R → length (schedule (sizes_only_of R)) ≤ 65536
schedule-small R P =
    let q = log₂-lt R.q (omega (arith, P.logins.high)) in
    let m = log₂-lt R.m (omega (arith, P.columns.high)) in
    let b = log₂-lt (rows_bin R) (omega (arith, P.bin.rows.high)) in
    let f = log₂-lt (rows_fld R) (omega (arith, P.fld.rows.high)) in
    rw (schedule-length (sizes_only_of R)) (omega (arith, q, m, b, f, P.segments))
