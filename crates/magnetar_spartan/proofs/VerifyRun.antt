-- What the checks of a verifying run leave: stopped by an outer check, by a later one, or by none.
-- Assumes nothing.
use mathlib.Core.Path.{◌≡◌, refl, sym, ap, ◌∙◌}
use mathlib.Core.List.{List, ◌++◌}
use Prim.Native.Nat.{ℕ, zero, suc, ◌*◌, ◌/◌, ◌^◌, ◌≤◌, ◌<◌}
use native.Mathlib.Omega.{arith}
use lib.ListN.{length, take, replicate, length-replicate}
use borrow.Author.Tests.{eq-eqb, ne_eqb, lt-ltb}
use Rattle.magnetar_field.specs.Words.{elements, words, overlaid}
use Rattle.magnetar_field.proofs.Elements.{words-length}
use Rattle.magnetar_matrix.proofs.TableLaws.{elements-words}
use Rattle.magnetar_hash.specs.declared.transcript.Transcript.{Transcript}
use Rattle.magnetar_layout.specs.Tests.{room_test}
use Rattle.magnetar_multilinear.specs.Multilinear.{mle}
use Rattle.magnetar_matrix.specs.Batch.{Relation, public_folded}
use Rattle.magnetar_protocol.specs.Shape.{proof_elements, claim_count}
use Rattle.magnetar_protocol.specs.Draws.{draws_of, draw_count, login_point, low_point}
use Rattle.magnetar_protocol.specs.Checks.{combined}
use Rattle.magnetar_protocol.specs.Run.{claims}
use Rattle.magnetar_schedule.specs.Schedule.{schedule}
use Rattle.magnetar_schedule.specs.ScheduleRun.{run_from}
use Rattle.magnetar_prover.specs.Entries.{play_refusal, play_answer, play_draws}
use Rattle.magnetar_schedule.specs.RealRun.{verifier_draws, verifier_transcript}
use Rattle.magnetar_protocol.specs.Found.{Found}
use Rattle.magnetar_protocol.specs.Found.{first_found}
use Rattle.magnetar_schedule.proofs.Blocks.{claims-outlined}
use Rattle.magnetar_schedule.proofs.Counts.{verifier-count}
use Rattle.magnetar_verifier.specs.Outer.{checks_refusal, outer_found}
use Rattle.magnetar_protocol.specs.RunTests.{outline_tests, counter_tests, draw_tests, proof_tests}
use Rattle.magnetar_verifier.specs.Outer as checked
use Rattle.magnetar_verifier.specs.End.{end_found}
use Rattle.magnetar_verifier.specs.Claims.{claims_refusal, claims_out}
use Rattle.magnetar_relation.specs.Rules.{Rules, relation_of}
use Rattle.magnetar_spartan.specs.Refusals.{rows_bin, rows_fld, sizes_only_of, proof_words, claim_words}
use Rattle.magnetar_spartan.specs.ValidRules.{ValidRules}
use Rattle.magnetar_spartan.specs.Outcome.{verify_verdict, verify_claims, columns_of}
use Rattle.magnetar_spartan.specs.Stages.{drawn_words, run_to, outer_at, end_at, claims_at, Concluded, first_of, stopped_at}
use Rattle.magnetar_spartan.proofs.Ended.{draws-small}
use Rattle.magnetar_spartan.proofs.PassedTests.{first-refusal-none, same-passes, most-passes, true-passes}
use Rattle.magnetar_spartan.proofs.SizedRules.{outline-passes}
use Rattle.magnetar_spartan.proofs.Verifying.{sizes-are, draws-is, schedule-small, outer-is, later-is, outer_of, later_of, after, answer-outer}
use Rattle.magnetar_spartan.proofs.Verifying.{answer-later, answer-none}

-- a run with the public words x, the proof's words w and the transcript t
module _ (R : Rules) (P : ValidRules R) (x w : List ℕ) (t : Transcript) (proof : length w ≡ proof_words R) (counter : t.squeeze_ctr < 2 ^ 32) where
  abbrev o : Relation
  o = sizes_only_of R

  abbrev D : List ℕ
  D = verifier_draws (relation_of R) (elements w) t

  -- the words of the draws
  abbrev d : List ℕ
  d = words D

  els : elements d ≡ D
  els = elements-words D

  parts : draws_of o (elements d) ≡ draws_of (relation_of R) D
  parts = ap (draws_of o) els ∙ sym (draws-is R D)

  pub draws-many : length d ≡ 2 * draw_count o
  draws-many = words-length D ∙ ap (λ (n : ℕ). 2 * n) (verifier-count (relation_of R) (elements w) t)

  proof-fits : length w ≡ 2 * proof_elements o
  proof-fits = proof

  -- ---- the schedule
  play-none : play_refusal o w (replicate 256 0) t ≡ 0
  unfolding play_refusal
  play-none =
      let l = counter_tests t.squeeze_ctr ++ (room_test (2 * draw_count o) (replicate 256 0) ++ proof_tests o w) in
      let room = most-passes (length (replicate {A = ℕ} 256 0)) (2 * draw_count o) (omega (arith, draws-small R P, length-replicate {A = ℕ} 256 0)) in
      first-refusal-none (outline_tests R.m R.q (rows_bin R) (rows_fld R) R.lengths ++ l)
      (outline-passes R P l (true-passes _ (lt-ltb _ _ counter), (room, (same-passes _ _ proof-fits, tt))))

  pub played-is : (n : ℕ) → run_to o w t n ≡ after R x w t n
  unfolding play_answer
  played-is n = rw play-none

  pub drawn-is : drawn_words o w t ≡ overlaid (words (run_from (elements w) (take 65536 (schedule o)) t).draws) (replicate 256 0)
  unfolding play_draws
  drawn-is = rw play-none

  -- ---- the outer checks
  outer-none : checks_refusal o w d ≡ 0
  unfolding checks_refusal
  outer-none =
      let l = draw_tests o d ++ proof_tests o w in
      first-refusal-none (outline_tests R.m R.q (rows_bin R) (rows_fld R) R.lengths ++ l)
      (outline-passes R P l (same-passes _ _ draws-many, (same-passes _ _ proof-fits, tt)))

  outer-checks-are : checked.outer_checks o (elements w) (draws_of o (elements d)) ≡ outer_of R x w t
  unfolding checked.outer_checks
  outer-checks-are = rw parts (outer-is R (columns_of R x) (elements w) (draws_of (relation_of R) D))

  abbrev F : Found
  F = outer_at o w d

  first-is : F ≡ first_found (outer_of R x w t)
  unfolding outer_found
  first-is = rw (outer-none, outer-checks-are)

  -- ---- the later checks, with the value v of the table, p of the public half, and claims c
  module _ (c : List ℕ) (v p : ℕ) (hc : claim_words R ≤ length c)
      (table : F.code ≡ 0 → v ≡ mle (combined (relation_of R) (draws_of (relation_of R) D)) (draws_of (relation_of R) D).inner)
      (half : F.code ≡ 0 → p ≡ mle (public_folded R.q (R.m / 2) (columns_of R x) (login_point (draws_of (relation_of R) D)))
      (low_point (relation_of R) (draws_of (relation_of R) D))) where
    abbrev G : Found
    G = end_at o w d v p

    last-is : F.code ≡ 0 → G ≡ first_found (later_of R x w t)
    unfolding end_found
    last-is z = rw (outer-none, parts) (ap first_found (later-is R (columns_of R x) (elements w) (draws_of (relation_of R) D) v p (table z) (half z)))

    claims-none : claims_refusal R.m R.q (rows_bin R) (rows_fld R) R.lengths w d c ≡ 0
    unfolding claims_refusal
    claims-none =
        let l = draw_tests o d ++ (room_test (2 * claim_count o) c ++ proof_tests o w) in
        let room = most-passes (length c) (2 * claim_count o) (omega (arith, hc)) in
        first-refusal-none (outline_tests R.m R.q (rows_bin R) (rows_fld R) R.lengths ++ l)
        (outline-passes R P l (same-passes _ _ draws-many, (room, (same-passes _ _ proof-fits, tt))))

    claims-is : claims o (elements w) (elements d) ≡ claims (relation_of R) (elements w) D
    claims-is =
        ap (claims o (elements w)) els ∙ ap (λ (r : Relation). claims r (elements w) D) (sym (sizes-are R))
        ∙ sym (claims-outlined (relation_of R) (elements w) D)

    -- ---- what is left: the number, the transcript and the claims
    abbrev pub Left : Concluded → Type 0
    Left v =
        (v.code ≡ verify_verdict R x w t) × (v.transcript ≡ verifier_transcript (relation_of R) (columns_of R x) (elements w) t)
        × (v.claims ≡ verify_claims R x w t c)

    abbrev Stopped : Found → Type 0
    Stopped g = Left (stopped_at o w d t (run_to o w t 65536) g c)

    kept : (n : ℕ) → n ≡ verify_verdict R x w t → (n ≡ 0 → ⊥) → c ≡ verify_claims R x w t c
    unfolding verify_claims
    kept n e h = rw (← e, ne_eqb n 0 h)

    written : 0 ≡ verify_verdict R x w t → claims_at o w d c ≡ verify_claims R x w t c
    unfolding verify_claims claims_out
    written e = rw (claims-none, ← e, claims-is)

    at-outer : (F.code ≡ 0 → ⊥) → Stopped F
    unfolding first_found
    at-outer h =
        let q = first-is in
        let b = answer-outer R x w t F.code F.events (ap (λ (k : Found). k.code) q) (ap (λ (k : Found). k.events) q) h in
        rw (ne_eqb F.code 0 h) (b.0, played-is F.events ∙ b.1, kept F.code b.0 h)

    at-later : F.code ≡ 0 → (G.code ≡ 0 → ⊥) → Stopped G
    unfolding first_found
    at-later z h =
        let q = first-is in
        let p = last-is z in
        let b = answer-later R x w t G.code G.events (sym (ap (λ (k : Found). k.code) q) ∙ z) (ap (λ (k : Found). k.code) p)
        (ap (λ (k : Found). k.events) p) h in
        rw (ne_eqb G.code 0 h) (b.0, played-is G.events ∙ b.1, kept G.code b.0 h)

    at_none : F.code ≡ 0 → G.code ≡ 0 → Stopped G
    unfolding first_found
    at_none z e =
        let q = first-is in
        let p = last-is z in
        let b = answer-none R x w t 65536 (sym (ap (λ (k : Found). k.code) q) ∙ z) (sym (ap (λ (k : Found). k.code) p) ∙ e) (schedule-small R P) in
        rw (eq-eqb G.code 0 e, e) (b.0, played-is 65536 ∙ b.1, written b.0)

    pub checks-leave : Left (stopped_at o w d t (run_to o w t 65536) (first_of F G) c)
    checks-leave = go F.code G.code refl refl
      where
        go : (i j : ℕ) → F.code ≡ i → G.code ≡ j → Left (stopped_at o w d t (run_to o w t 65536) (first_of F G) c)
        go (suc i) j e f = let h : F.code ≡ 0 → ⊥ = λ z. omega (arith, e, z) in rw (ne_eqb F.code 0 h) (at-outer h)
        go zero (suc j) e f = let h : G.code ≡ 0 → ⊥ = λ z. omega (arith, f, z) in rw (eq-eqb F.code 0 e) (at-later e h)
        go zero zero e f = rw (eq-eqb F.code 0 e) (at_none e f)
