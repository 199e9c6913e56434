-- How the row check ends: what the search and the steps leave is the verdict that the relation gives, and what the entry leaves.
-- Assumes nothing.
use Rattle.std.specs.Prelude.{◌≡◌, ℕ, ◌+◌, ◌-◌, ◌*◌, ◌/◌, ◌<◌, ◌≤◌, max, Result, Ok, Err}
use Rattle.std.specs.Prelude.{Bool, true, false, cond, not, eqb, ltb, leb, List, [], ◌∷◌, ◌++◌, length, drop, replicate}
use Rattle.std.specs.Result.{IsErrAnd}
use Rattle.magnetar_field.specs.declared.refusal.Refusal.{Refusal}
use Rattle.magnetar_field.specs.Number.{number, number_of}
use Rattle.magnetar_field.proofs.Handed.{handed}
use mathlib.Core.Path.{refl, sym, ap, ap₂, ◌∙◌}
use native.Mathlib.Omega.{arith}
use lib.Seq.{drop-drop}
use borrow.Author.Tests.{eq-eqb, ne_eqb, ltb-true, ltb-false, leb-true, leb-false, lt-ltb, le-ltb, le-leb, not-false}
use Rattle.magnetar_layout.specs.Tests.{Tests, first_refusal, size_tests, packed_tests, public_tests, layout_tests}
use Rattle.magnetar_layout.proofs.FirstRefusal.{first-refusal-clear, front-none, rest-none}
use Rattle.magnetar_layout.proofs.Laid.{even-size, layout-own}
use Rattle.magnetar_layout.proofs.Passing.{cleared}
use Rattle.magnetar_layout.proofs.Refused.{number-positive}
use Rattle.magnetar_layout.specs.Entries.{layout_refusal}
use Rattle.magnetar_layout.proofs.SizeLaws.{not-bad}
use Rattle.magnetar_matrix.specs.Matrix.{System}
use Rattle.magnetar_matrix.specs.Batch.{Relation, assignment}
use Rattle.magnetar_matrix.specs.Packed.{unpacked, public_of, z_of}
use Rattle.magnetar_matrix.specs.RowCheck.{first_not, stray_column, stray_login, failing_row, failing_login, systems_verdict, row_verdict}
use Rattle.magnetar_matrix.specs.RowCheck.Verdict.{stray}
use Rattle.magnetar_matrix.proofs.FirstRow.{first-ext, Below}
use Rattle.magnetar_matrix.proofs.Verdicts.{first-le, first-before, first-not}
use Rattle.magnetar_matrix.proofs.PublicParts.{public-of}
use Rattle.magnetar_r1cs.proofs.Split.{assigned}
use Rattle.magnetar_relation.specs.Rules.{Rules, relation_of, in_relation}
use Rattle.magnetar_relation.specs.RuleTests.{rule_tests, rule_tests_by, shape_tests, number_tests, total}
use Rattle.magnetar_relation.specs.Steps.{cleared_to, login_z}
use Rattle.magnetar_relation.specs.Stray.{searched, stray_refusal, stray_outcome}
use Rattle.magnetar_relation.specs.Stray.StrayAnswer.{clear, bit, refused as unsearched}
use Rattle.magnetar_relation.proofs.RuleLaws.{join-none}
use Rattle.magnetar_check.specs.declared.check.RowCheck.{RowCheck}
use Rattle.magnetar_check.specs.Check.{Outcome, check_scratch_tests, check_scratch_of, check_refusal, Checked, checked, check_outcome}
use Rattle.magnetar_check.specs.Check.Outcome.{judged, refused}
use Rattle.magnetar_check.specs.CheckSteps.{Found, nothing, stray_found, Judged, from, system_done, both_done, both_words, answer_of}
use Rattle.magnetar_check.proofs.RowWalk.{found-stays}
use Rattle.magnetar_check.proofs.SystemWalk.{length-kept, behind-kept, found_none, found_first}

-- ---- the first login of a system with a row that does not hold
module _ (t : System) (w : ℕ) (ws x : List ℕ) (q : ℕ) where
  abbrev row : ℕ → ℕ
  row u = failing_row t (login_z w ws x u)

  abbrev test : ℕ → Bool
  test u = eqb (row u) t.a.rows

  abbrev first : ℕ
  first = first_not test q

  -- of the batch and the public columns that the words hold
  row_is : (u : ℕ) → u < q → failing_row t (assignment (unpacked q w ws) (public_of q w x) u) ≡ row u
  unfolding login_z z_of
  row_is u h = ap (failing_row t) (assigned q w ws (public_of q w x) u h ∙ rw (public-of q w x u h))

  login-is : failing_login t q (unpacked q w ws) (public_of q w x) ≡ first
  unfolding failing_login
  login-is =
      first-ext (λ u. eqb (failing_row t (assignment (unpacked q w ws) (public_of q w x) u)) t.a.rows) test q (λ u h. rw (row_is u h))

  -- what the walk finds
  module _ (k : ℕ) (p : Judged) (hn : t.a.rows ≤ 65536) (room : 6 * t.a.rows ≤ length p.left) (z : p.found.kind ≡ 0) where
    walk-found : (k ≡ 0 → ⊥) → first < q → (system_done k w ws x t q p).found ≡ record { kind = k; login = first; place = row first }
    walk-found some h = found_first k w ws x t p hn room z some q first h (λ j l. first-before test q j l) (first-not test q h)

    walk_none : q ≤ first → (system_done k w ws x t q p).found ≡ p.found
    walk_none h =
        let e : first ≡ q = omega (arith, h, first-le test q) in
        let below : Below test first = λ j l. first-before test q j l in
        found_none k w ws x t p hn room z q (rw e at below)

-- what is behind some words is behind more of them
further : (i j : ℕ) (l k : List ℕ) → i ≤ j → drop i l ≡ drop i k → drop j l ≡ drop j k
further i j l k h e =
    let d : i + (j - i) ≡ j = omega arith in
    ap (λ (v : ℕ). drop v l) (sym d) ∙ (sym (drop-drop (j - i) i l) ∙ (ap (drop (j - i)) e ∙ (drop-drop (j - i) i k ∙ ap (λ (v : ℕ). drop v k) d)))

-- ---- both systems
module _ (R : Relation) (w : ℕ) (ws x : List ℕ) (r : Found) (l : List ℕ) (hs : R.bin.a.rows ≤ 65536) (ht : R.fld.a.rows ≤ 65536)
    (room : 6 * max R.bin.a.rows R.fld.a.rows ≤ length l) where
  abbrev q : ℕ
  q = R.q

  abbrev larger : ℕ
  larger = max R.bin.a.rows R.fld.a.rows

  abbrev mid : Judged
  mid = system_done 1 w ws x R.bin q (from r l)

  abbrev end : Judged
  end = both_done R w ws x r l

  room-s : 6 * R.bin.a.rows ≤ length l
  room-s = omega (arith, room)

  mid-length : length mid.left ≡ length l
  mid-length = length-kept 1 w ws x R.bin (from r l) hs room-s q

  room-t : 6 * R.fld.a.rows ≤ length mid.left
  room-t = omega (arith, room, mid-length)

  behind-end : drop (6 * larger) end.left ≡ drop (6 * larger) l
  behind-end =
      further (6 * R.fld.a.rows) (6 * larger) end.left mid.left (omega arith) (behind-kept 2 w ws x R.fld mid ht room-t q)
      ∙ further (6 * R.bin.a.rows) (6 * larger) mid.left l (omega arith) (behind-kept 1 w ws x R.bin (from r l) hs room-s q)

  -- the words are cleared
  words_are : both_words R w ws x r l ≡ replicate (6 * larger) 0 ++ drop (6 * larger) l
  unfolding cleared_to
  words_are =
      let d : 2 * (3 * larger) ≡ 6 * larger = omega arith in
      let h : 6 * larger ≤ length end.left = rw (length-kept 2 w ws x R.fld mid ht room-t q, mid-length) room in
      rw (d, le-leb _ _ h, behind-end)

  abbrev first-bin : ℕ
  first-bin = first R.bin w ws x q

  abbrev first-fld : ℕ
  first-fld = first R.fld w ws x q

  abbrev Right : Type 0
  Right = answer_of 0 end.found ≡ judged (systems_verdict R (unpacked q w ws) (public_of q w x))

  -- where something was found before, that stays
  kept : (r.kind ≡ 0 → ⊥) → end.found ≡ r
  kept some =
      let e = found-stays 1 w ws x R.bin (from r l) q some in
      sym (ap (λ (p : Judged). p.found) (found-stays 2 w ws x R.fld (from r l) q some ∙ ap (system_done 2 w ws x R.fld q) e))

  answer-bin : r ≡ nothing → first-bin < q → Right
  unfolding answer_of systems_verdict
  answer-bin r-none h =
      let some : ◌≡◌ {A = ℕ} 1 0 → ⊥ = λ z. omega (arith, z) in
      let e = walk-found R.bin w ws x q 1 (from r l) hs room-s (rw r-none) some h in
      let k = ap (λ (p : Judged). p.found) (sym (found-stays 2 w ws x R.fld mid q (rw e some))) ∙ e in
      rw (k, login-is R.bin w ws x q, ne_eqb first-bin q (λ z. omega (arith, h, z)), row_is R.bin w ws x q first-bin h)

  module _ (r-none : r ≡ nothing) (h : q ≤ first-bin) where
    mid_none : mid.found ≡ nothing
    mid_none = walk_none R.bin w ws x q 1 (from r l) hs room-s (rw r-none) h ∙ r-none

    bin-is : first-bin ≡ q
    bin-is = omega (arith, h, first-le (test R.bin w ws x q) q)

    answer-fld : first-fld < q → Right
    unfolding answer_of systems_verdict
    answer-fld g =
        rw (
          walk-found R.fld w ws x q 2 mid ht room-t (rw mid_none) (λ z. omega (arith, z)) g,
          login-is R.bin w ws x q,
          eq-eqb first-bin q bin-is,
          login-is R.fld w ws x q,
          ne_eqb first-fld q (λ z. omega (arith, g, z)),
          row_is R.fld w ws x q first-fld g,
        )

    answer-good : q ≤ first-fld → Right
    unfolding answer_of systems_verdict
    answer-good g =
        let f : first-fld ≡ q = omega (arith, g, first-le (test R.fld w ws x q) q) in
        rw (
          walk_none R.fld w ws x q 2 mid ht room-t (rw mid_none) g,
          mid_none,
          login-is R.bin w ws x q,
          eq-eqb first-bin q bin-is,
          login-is R.fld w ws x q,
          eq-eqb first-fld q f,
        )

  rows_are : r ≡ nothing → Right
  rows_are z = go (ltb first-bin q) refl (ltb first-fld q) refl
    where
      go : (b : Bool) → ltb first-bin q ≡ b → (d : Bool) → ltb first-fld q ≡ d → Right
      go true b d e = answer-bin z (ltb-true first-bin q b)
      go false b true e = answer-fld z (ltb-false first-bin q b) (ltb-true first-fld q e)
      go false b false e = answer-good z (ltb-false first-bin q b) (ltb-false first-fld q e)

  -- after the search for a stray bit
  answer-is : r ≡ stray_found (searched q w R.lengths (unpacked q w ws)) → w ≡ R.m / 2
      → answer_of 0 end.found ≡ judged (row_verdict R (unpacked q w ws) (public_of q w x))
  unfolding row_verdict searched answer_of
  answer-is e h = rw (← h) (go (eqb login q) refl (rows_are) e)
    where
      login : ℕ
      login = stray_login q w R.lengths (unpacked q w ws)

      go : (b : Bool) → eqb login q ≡ b → (r ≡ nothing → Right)
          → r ≡ stray_found (cond b clear (bit login (stray_column w R.lengths (unpacked q w ws) login)))
          → answer_of 0 end.found
          ≡ judged (cond b (systems_verdict R (unpacked q w ws) (public_of q w x)) (stray login (stray_column w R.lengths (unpacked q w ws) login)))
      go true b right e = right e
      go false b right e = rw (kept (rw e (λ z. omega (arith, z))), e)

-- ---- the refusal
-- 15, by a quotient
pub sixth-over : (n k room : ℕ) → not (leb (max n k) (room / 6)) ≡ ltb room (6 * max n k)
sixth-over n k room = go (leb (max n k) (room / 6)) refl
  where
    go : (b : Bool) → leb (max n k) (room / 6) ≡ b → not b ≡ ltb room (6 * max n k)
    go true b = sym (le-ltb room (6 * max n k) (omega (arith, leb-true (max n k) (room / 6) b)))
    go false b = sym (lt-ltb room (6 * max n k) (omega (arith, leb-false (max n k) (room / 6) b)))

module _ (R : Rules) (ws x : List ℕ) (room : ℕ) where
  abbrev pub front : Tests
  front = size_tests R.m R.q ++ (packed_tests (R.m / 2) R.q ws ++ public_tests R.m R.q x)

  abbrev pub layout : Tests
  layout = layout_tests (R.m / 2) R.lengths

  abbrev pub room-tests : Tests
  room-tests = check_scratch_tests R.shapes.bin.a.rows R.shapes.fld.a.rows room

  abbrev pub back : Tests
  back = layout ++ room-tests

  -- 8 to 10, as the layout's own refusal says them
  pub laid-own : 0 ≡ first_refusal 0 front → layout_refusal (R.m / 2) R.lengths ≡ first_refusal 0 layout
  laid-own e = layout-own R.m R.lengths (not-false _ (cleared front refl e).0)

  -- what is known where nothing is refused
  record CheckFits : Type 0 where
    bin : R.shapes.bin.a.rows ≤ 65536
    fld : R.shapes.fld.a.rows ≤ 65536
    enough : check_scratch_of R ≤ room
    half : 2 * (R.m / 2) ≡ R.m
    unstray : stray_refusal R.q (R.m / 2) R.lengths ws ≡ 0

  check-fits : check_refusal R ws x room ≡ 0 → CheckFits
  unfolding check_refusal rule_tests_by stray_refusal
  check-fits e =
      let shapes = shape_tests R.m R.q R.shapes in
      let more = number_tests (total R.shapes) R.numbers ++ ((7, not (in_relation (relation_of R))) ∷ []) in
      let late : first_refusal 0 (rule_tests R ++ back) ≡ 0 = rest-none front (rule_tests R ++ back) e in
      let rules : first_refusal 0 (shapes ++ more) ≡ 0 = front-none (rule_tests R) back late in
      let c = (first-refusal-clear 0 shapes refl (front-none shapes more rules)).1 in
      let last : first_refusal 0 back ≡ 0 = rest-none (rule_tests R) back late in
      let sizes = size_tests R.m R.q in
      let packed = packed_tests (R.m / 2) R.q ws in
      let public = public_tests R.m R.q x in
      let early : first_refusal 0 front ≡ 0 = front-none front (rule_tests R ++ back) e in
      let s : first_refusal 0 sizes ≡ 0 = front-none sizes (packed ++ public) early in
      let p : first_refusal 0 packed ≡ 0 = front-none packed public (rest-none sizes (packed ++ public) early) in
      let two : 2 * (R.m / 2) ≡ R.m = even-size R.m (not-bad (first-refusal-clear 0 sizes refl s).1.0) in
      record {
        bin = (not-bad c.0).high;
        fld = (not-bad c.1.1.1.1.0).high;
        enough = ltb-false _ _ (first-refusal-clear 0 room-tests refl (rest-none layout room-tests last)).1.0;
        half = two;
        unstray = rw two (join-none sizes (packed ++ layout) s (join-none packed layout p (front-none layout room-tests last)));
      }

-- ---- the entry
module _ (R : Rules) (ws x l : List ℕ) (n : ℕ) (refusal : n ≡ check_refusal R ws x (length l)) where
  abbrev ends_as : Outcome → List ℕ → Checked
  ends_as o s = record { answer = o; scratch = s }

  -- what a `?` hands out
  pub check-back : (r : Result RowCheck Refusal) (e : Refusal) → IsErrAnd r (λ y. y ≡ e) → n ≡ number e → checked r l ≡ check_outcome R ws x l
  check-back r e h f = go r (handed r e h ∙ sym f)
    where
      back-is : (n ≡ 0 → ⊥) → ends_as (refused n) l ≡ check_outcome R ws x l
      back-is z = unfold check_outcome in rw (← refusal, ne_eqb n 0 z)

      go : (r : Result RowCheck Refusal) → number_of r ≡ n → checked r l ≡ check_outcome R ws x l
      go (Ok v) k = let p = number-positive e in absurd (omega arith)
      go (Err y) k = let p = number-positive y in rw k (back-is (λ z. omega arith))

  module _ (w : ℕ) (ew : w ≡ R.m / 2) where
    abbrev first_found : Found
    first_found = stray_found (stray_outcome R.q w R.lengths ws)

    abbrev done : Found → Judged
    done r = both_done (relation_of R) w ws x r l

    abbrev left : Found → List ℕ
    left r = both_words (relation_of R) w ws x r l

    pub check_done : (r₀ r : Found) (s : List ℕ) (o : Outcome) → n ≡ 0 → r₀ ≡ first_found → (r ≡ (done r₀).found) × (s ≡ left r₀)
        → o ≡ answer_of 0 r → ends_as o s ≡ check_outcome R ws x l
    unfolding check_outcome
    check_done r₀ r s o z e₀ e eo =
        let f = check-fits R ws x (length l) (sym refusal ∙ z) in
        let u : stray_refusal R.q w R.lengths ws ≡ 0 = rw ew f.unstray in
        let s₀ : r₀ ≡ stray_found (searched R.q w R.lengths (unpacked R.q w ws)) = e₀ ∙ rw u in
        let a = answer-is (relation_of R) w ws x r₀ l f.bin f.fld f.enough s₀ ew in
        let c = words_are (relation_of R) w ws x r₀ l f.bin f.fld f.enough in
        ap₂ ends_as (eo ∙ (ap (answer_of 0) e.0 ∙ a)) (e.1 ∙ c) ∙ rw (← refusal, z, ew)

    -- the search for a stray bit refuses nothing then
    pub unstray-is : n ≡ 0 → (i : ℕ) → unsearched i ≡ stray_outcome R.q w R.lengths ws → ⊥
    unfolding searched
    unstray-is z i e = not-refused (eqb (stray_login R.q w R.lengths (unpacked R.q w ws)) R.q) (e ∙ rw u)
      where
        u : stray_refusal R.q w R.lengths ws ≡ 0
        u = rw ew (check-fits R ws x (length l) (sym refusal ∙ z)).unstray

        not-refused : (b : Bool) → unsearched i ≡ cond b clear (bit (stray_login R.q w R.lengths (unpacked R.q w ws))
            (stray_column w R.lengths (unpacked R.q w ws) (stray_login R.q w R.lengths (unpacked R.q w ws)))) → ⊥
        not-refused true e = cc
        not-refused false e = cc
