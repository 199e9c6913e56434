-- How the verifier ends: what its stages gave is its outcome.
-- Assumes nothing.
use mathlib.Core.Path.{◌≡◌, refl, sym, ap, ◌∙◌}
use mathlib.Core.Bool.{Bool, true, false, cond}
use mathlib.Core.List.{List, ◌++◌}
use Prim.Native.Nat.{ℕ, ◌+◌, ◌*◌, ◌/◌, ◌≤◌, min, max}
use native.Mathlib.Omega.{arith}
use lib.Dec.{eqb}
use lib.ListN.{length, drop, replicate, length-append, length-drop, length-replicate}
use lib.Seq.{take_at}
use borrow.Author.Tests.{le-leb}
use Rattle.magnetar_field.specs.Words.{elements, words, overlaid}
use Rattle.magnetar_field.specs.declared.refusal.Refusal.{Refusal}
use Rattle.magnetar_field.specs.Number.{number}
use Rattle.magnetar_hash.specs.declared.transcript.Transcript.{Transcript}
use Rattle.magnetar_hash.specs.Transcript.{TranscriptAnswer}
use Rattle.magnetar_matrix.proofs.TableLaws.{elements-words}
use Rattle.magnetar_matrix.specs.Batch.{Relation, public_folded}
use Rattle.magnetar_multilinear.specs.Multilinear.{mle}
use Rattle.magnetar_protocol.specs.Draws.{Draws, draw_count, draws_of, login_point, low_point}
use Rattle.magnetar_schedule.specs.ScheduleRun.{RunState}
use Rattle.magnetar_protocol.specs.Checks.{combined}
use Rattle.magnetar_schedule.specs.RealRun.{verifier_draws}
use Rattle.magnetar_protocol.specs.Found.{Found}
use Rattle.magnetar_relation.specs.Rules.{Rules, relation_of}
use Rattle.magnetar_relation.specs.Steps.{cleared_to}
use Rattle.magnetar_spartan.specs.Refusals.{rows_bin, rows_fld, sizes_only_of, verifier_scratch_of}
use Rattle.magnetar_spartan.specs.Outcome.{columns_of, verified, verify_refusal, verify_outcome}
use Rattle.magnetar_spartan.specs.Theorems.{AreWords, AcceptedCall, WritesAtMost}
use Rattle.magnetar_spartan.specs.Table.{table_value, value_left}
use Rattle.magnetar_spartan.specs.Stages.{drawn_words, run_to, drawn_of, outer_at, end_at, half_value, half_left, half_at, checked, checks_left}
use Rattle.magnetar_spartan.specs.Stages.{concluded, first_of, Concluded, stopped_at}
use Rattle.magnetar_spartan.proofs.Verifying.{played-all, schedule-small}
use Rattle.magnetar_spartan.proofs.VerifyRun.{draws-many, drawn-is, checks-leave}
use Rattle.magnetar_spartan.proofs.Ended.{Verifiable, verifiable, draws-small, verify-refused}
use Rattle.magnetar_spartan.proofs.PassedTests.{some}
use Rattle.magnetar_spartan.proofs.ScratchBound.{writes-at-most}
use Rattle.magnetar_spartan.proofs.Sound.{accepted-call}
use Rattle.magnetar_spartan.proofs.DrawnTable.{drawn-value, drawn-left}
use Rattle.magnetar_spartan.proofs.PublicValue.{run_value, run-left}
use Rattle.magnetar_spartan.proofs.Room.{over, cleared-twice}

-- ---- a run that nothing refuses before its checks
module _ (R : Rules) (x w : List ℕ) (t : Transcript) (c s : List ℕ) (none : verify_refusal R x w t c s ≡ 0) where
  abbrev o : Relation
  o = sizes_only_of R

  pub fits : Verifiable R x w t.squeeze_ctr (length c) (length s)
  unfolding verify_refusal
  fits = verifiable R x w t.squeeze_ctr (length c) (length s) none

  -- the draws, by what they are drawn for
  abbrev D : Draws
  D = draws_of (relation_of R) (verifier_draws (relation_of R) (elements w) t)

  -- and their words
  abbrev pub drawn : List ℕ
  drawn = words (verifier_draws (relation_of R) (elements w) t)

  pub drawn-long : length drawn ≡ 2 * draw_count o
  drawn-long = draws-many R fits.ready x w t fits.proof fits.counter

  pub drawn-few : length drawn ≤ 256
  drawn-few = omega (arith, drawn-long, draws-small R fits.ready)

  pub words_are : drawn_words o w t ≡ overlaid drawn (replicate 256 0)
  unfolding verifier_draws
  words_are =
      drawn-is R fits.ready x w t fits.proof fits.counter
      ∙ ap (λ (p : RunState). overlaid (words p.draws) (replicate 256 0)) (played-all R (elements w) t 65536 (schedule-small R fits.ready))

  pub draws-are : drawn_of o (drawn_words o w t) ≡ drawn
  draws-are =
      let k : min (2 * draw_count o) 256 ≡ length drawn = omega (arith, drawn-long, drawn-few) in
      rw (words_are, over drawn drawn-few, k) (take_at drawn (drop (length drawn) (replicate 256 0)) (length drawn) refl)

  abbrev F : Found
  F = outer_at o w drawn

  -- ---- the stages, with the words that are drawn
  abbrev dw : List ℕ
  dw = drawn_words o w t

  -- what is left of the scratch behind the value of the combined table
  abbrev s₁ : List ℕ
  s₁ = value_left R dw s

  enough : 2 * R.m + 2 * max (rows_bin R) (rows_fld R) ≤ length s
  enough = omega (arith, fits.scratch)

  at-draws : {A : Type 0} (f : List ℕ → A) → f dw ≡ f (overlaid drawn (replicate 256 0))
  at-draws f = ap f words_are

  table-value : table_value R dw s ≡ mle (combined (relation_of R) D) D.inner
  table-value =
      at-draws (λ (l : List ℕ). table_value R l s)
      ∙ (drawn-value R fits.ready drawn drawn-long s enough fits.passed
      ∙ ap (λ (l : List ℕ). mle (combined (relation_of R) (draws_of (relation_of R) l)) (draws_of (relation_of R) l).inner)
      (elements-words (verifier_draws (relation_of R) (elements w) t)))

  table-left : s₁ ≡ cleared_to (R.m + max (rows_bin R) (rows_fld R)) s
  table-left = at-draws (λ (l : List ℕ). value_left R l s) ∙ drawn-left R fits.ready drawn drawn-long s enough fits.passed

  room-kept : length s₁ ≡ length s
  unfolding cleared_to
  room-kept =
      let k = R.m + max (rows_bin R) (rows_fld R) in
      ap length table-left ∙ rw (le-leb (2 * k) (length s) (omega (arith, enough)), length-append, length-replicate, length-drop) (omega (arith, enough))

  room : 2 * R.m + 2 * R.q ≤ length s₁
  room = omega (arith, fits.scratch, room-kept)

  half-value : half_at R x dw s ≡ mle (public_folded R.q (R.m / 2) (columns_of R x) (login_point D)) (low_point (relation_of R) D)
  half-value =
      at-draws (λ (l : List ℕ). half_value R.m R.q (rows_bin R) (rows_fld R) x l s₁)
      ∙ (run_value R fits.ready x drawn s₁ drawn-long fits.public room
      ∙ ap (λ (l : List ℕ). mle (public_folded R.q (R.m / 2) (columns_of R x) (login_point (draws_of (relation_of R) l)))
      (low_point (relation_of R) (draws_of (relation_of R) l)))
      (elements-words (verifier_draws (relation_of R) (elements w) t)))

  half-left : half_left R.m R.q (rows_bin R) (rows_fld R) x dw s₁ ≡ cleared_to (R.m + R.q) s₁
  half-left =
      at-draws (λ (l : List ℕ). half_left R.m R.q (rows_bin R) (rows_fld R) x l s₁) ∙ run-left R fits.ready x drawn s₁ drawn-long fits.public room

  -- the scratch, cleared at last
  abbrev K : ℕ
  K = R.m + max (rows_bin R) (rows_fld R) + R.q

  both-cleared : cleared_to K (half_left R.m R.q (rows_bin R) (rows_fld R) x dw s₁) ≡ cleared_to K s
  both-cleared =
      let f : 2 * K ≤ length s = omega (arith, fits.scratch) in
      ap (cleared_to K) half-left
      ∙ (cleared-twice (R.m + R.q) K s₁ (omega arith) (omega (arith, f, room-kept))
      ∙ (ap (cleared_to K) table-left ∙ cleared-twice (R.m + max (rows_bin R) (rows_fld R)) K s (omega arith) f))

  cleared-is : cleared_to K (checks_left R x w dw s) ≡ cleared_to K s
  cleared-is = go (eqb (outer_at o w (drawn_of o dw)).code 0)
    where
      go : (b : Bool) → cleared_to K (cond b (half_left R.m R.q (rows_bin R) (rows_fld R) x dw s₁) s) ≡ cleared_to K s
      go true = both-cleared
      go false = refl

  scratch-is : cleared_to K (checks_left R x w dw s) ≡ replicate (verifier_scratch_of R) 0 ++ drop (verifier_scratch_of R) s
  unfolding cleared_to
  scratch-is =
      let n : 2 * K ≡ verifier_scratch_of R = omega arith in
      cleared-is ∙ rw (n, le-leb (verifier_scratch_of R) (length s) fits.scratch)

  pub run_ends : (a : TranscriptAnswer) (c' s₃ : List ℕ)
      → concluded a c' ≡ stopped_at o w (drawn_of o dw) t (run_to o w t 65536) (checked R x w dw s) c → s₃ ≡ cleared_to K (checks_left R x w dw s)
      → verified a c' s₃ ≡ verify_outcome R x w t c s
  unfolding verify_outcome
  run_ends a c' s₃ e f =
      let v = table_value R dw s in
      let p = half_at R x dw s in
      let l = checks-leave R fits.ready x w t fits.proof fits.counter c v p fits.claims (λ z. table-value) (λ z. half-value) in
      let g : concluded a c' ≡ stopped_at o w drawn t (run_to o w t 65536) (first_of F (end_at o w drawn v p)) c =
      e ∙ ap (λ (i : List ℕ). stopped_at o w i t (run_to o w t 65536) (first_of (outer_at o w i) (end_at o w i v p)) c) draws-are in
      rw (none, f, scratch-is, ← l.0, ← l.1, ← l.2) (ap (λ (k : Concluded).
      record {
        code = k.code;
        transcript = k.transcript;
        claims = k.claims;
        scratch = replicate (verifier_scratch_of R) 0 ++ drop
            (verifier_scratch_of R) s;
      }) g)

-- ---- the whole verifier
module _ (R : Rules) (x w : List ℕ) (t : Transcript) (c s : List ℕ) where
  -- the outcome, that no word past the formula is written, and what an accepted call says
  abbrev pub Ends : TranscriptAnswer → (c' s' : List ℕ) → Type 0
  Ends a c' s' = (verified a c' s' ≡ verify_outcome R x w t c s) × WritesAtMost (verifier_scratch_of R) s s' × (a.code ≡ 0 → AcceptedCall R x w t c')

  ends : (a : TranscriptAnswer) (c' s' : List ℕ) → AreWords x → AreWords w → verified a c' s' ≡ verify_outcome R x w t c s → Ends a c' s'
  ends a c' s' ax aw e =
      (e, writes-at-most R x w t c s (verified a c' s') e, accepted-call R x w t c s (verified a c' s') ax aw e)

  -- turned back
  pub verify-back : (r : Refusal) → number r ≡ verify_refusal R x w t c s → AreWords x → AreWords w → Ends (record { code = number r; transcript = t }) c s
  verify-back r e ax aw = ends (record { code = number r; transcript = t }) c s ax aw (verify-refused R x w t c s (number r) e (some r))

  -- run through: with the words d of the draws, the words s₁ left by the checks and s₂ at exit
  pub verify-ends : 0 ≡ verify_refusal R x w t c s → (d s₁ s₂ : List ℕ) (a : TranscriptAnswer) (c' : List ℕ) → d ≡ drawn_words (sizes_only_of R) w t
      → s₁ ≡ checks_left R x w d s → s₂ ≡ cleared_to (R.m + max (rows_bin R) (rows_fld R) + R.q) s₁
      → concluded a c' ≡ stopped_at (sizes_only_of R) w (drawn_of (sizes_only_of R) d) t (run_to (sizes_only_of R) w t 65536) (checked R x w d s) c
      → AreWords x → AreWords w → Ends a c' s₂
  verify-ends none d s₁ s₂ a c' ed e₁ e₂ ea ax aw =
      ends a c' s₂ ax aw (run_ends R x w t c s (sym none) a c' s₂ (rw ed at ea)
      (e₂ ∙ (ap (cleared_to (R.m + max (rows_bin R) (rows_fld R) + R.q)) (rw ed at e₁))))
