-- The combined table at the draws of a run, and its value at the inner point: the words of the draws stand in front of 256, and the alphas and
-- the points are read there.
-- Assumes nothing.
use mathlib.Core.Path.{◌≡◌, refl, sym, ap, ap₂, ◌∙◌, subst}
use mathlib.Core.Bool.{true, false, not}
use mathlib.Core.List.{List, [], ◌∷◌, ◌++◌, append_assoc}
use Prim.Native.Nat.{ℕ, ◌+◌, ◌-◌, ◌*◌, ◌/◌, ◌≤◌, min, max}
use native.Mathlib.Omega.{arith}
use lib.ListN.{length, take, drop, replicate, length-append, length-drop, length-replicate}
use lib.Dec.{ltb}
use lib.Seq.{take_at, take-take, take-append-le, drop-append-le, length-take-le}
use Rattle.magnetar_field.specs.Sizes.{log₂}
use Rattle.magnetar_field.specs.Words.{elements, words, overlaid}
use Rattle.magnetar_field.proofs.Elements.{elements-drop, overlaid-same, words-length}
use Rattle.magnetar_field.proofs.Tabulation.{tabulate-length}
use borrow.Author.Tests.{le-leb}
use Rattle.magnetar_multilinear.specs.Multilinear.{mle}
use Rattle.magnetar_layout.specs.Tests.{Sized, column_tests, room_test_of}
use Rattle.magnetar_layout.proofs.FirstRefusal.{Clear}
use Rattle.magnetar_r1cs.proofs.Points.{log-most}
use Rattle.magnetar_matrix.specs.Matrix.{System}
use Rattle.magnetar_matrix.specs.Batch.{Relation}
use Rattle.magnetar_matrix.proofs.TableLaws.{elements-words}
use Rattle.magnetar_verifier.proofs.EndPhases.{cols}
use Rattle.magnetar_verifier.proofs.Pieces.{elements-take}
use Rattle.magnetar_matrix.specs.Combined.{combined_table}
use Rattle.magnetar_batch.specs.Entries.{combo_scratch_of}
use Rattle.magnetar_batch.specs.TableSteps.{point_in}
use Rattle.magnetar_batch.specs.Value.{CombinedAt, value_refusal, value_outcome, combo_value}
use Rattle.magnetar_batch.proofs.ColumnLaws.{Wide}
use Rattle.magnetar_batch.proofs.ComboEnds.{table_is}
use Rattle.magnetar_protocol.specs.RunSizes.{SizedSystem}
use Rattle.magnetar_protocol.specs.Draws.{Draws, draw_count, draws_of, low_point}
use Rattle.magnetar_protocol.specs.Checks.{combined}
use Rattle.magnetar_relation.specs.Rules.{Rules, relation_of, in_relation}
use Rattle.magnetar_relation.specs.RuleTests.{rule_tests, rule_tests_by, shape_tests, col_tests, most_tests, number_tests, total}
use Rattle.magnetar_relation.specs.Steps.{cleared_to}
use Rattle.magnetar_spartan.specs.Refusals.{rows_bin, rows_fld, sizes_only_of}
use Rattle.magnetar_spartan.specs.ValidRules.{ValidRules}
use Rattle.magnetar_spartan.specs.Table.{bin_at, fld_at, alphas_at, inner_at, window, table_at, for_one, value_at, table_value, value_left}
use Rattle.magnetar_spartan.proofs.PassedTests.{first-refusal-none, clear-front, clear-back, clear-join, size-passes, most-passes}
use Rattle.magnetar_spartan.proofs.Verifying.{draws-is}
use Rattle.magnetar_spartan.proofs.Ended.{log-few, draws-small}
use Rattle.magnetar_spartan.proofs.Room.{Beyond, in-front, over}

-- ---- windows of words d that stand in front of 256
module _ (d : List ℕ) (few : length d ≤ 256) where
  abbrev behind : List ℕ
  behind = drop (length d) (replicate 256 0)

  all_words : length (d ++ behind) ≡ 256
  all_words = rw (length-append, length-drop) (omega (arith, length-replicate {A = ℕ} 256 0))

  window-part : (n k : ℕ) → k + n ≤ 256 → window n k (overlaid d (replicate 256 0)) ≡ take n (drop k (d ++ behind))
  window-part n k h =
      let e : min k (256 - n) ≡ k = omega arith in
      let x : length (take n (drop k (d ++ behind))) ≡ n = length-take-le n (drop k (d ++ behind)) (rw length-drop (omega (arith, all_words))) in
      rw (over d few, e) (overlaid-same (take n (drop k (d ++ behind))) (replicate n 0) (length-replicate n 0 ∙ sym x))

  window-read : (n k l : ℕ) → l ≤ n → k + n ≤ 256 → k + l ≤ length d → take l (window n k (overlaid d (replicate 256 0))) ≡ take l (drop k d)
  window-read n k l h f g =
      ap (take l) (window-part n k f)
      ∙ (take-take l n (drop k (d ++ behind)) h
      ∙ (ap (take l) (drop-append-le k d behind (omega arith)) ∙ take-append-le l (drop k d) behind (rw length-drop (omega arith))))

  window-whole : (n k : ℕ) → k + n ≤ 256 → k + n ≤ length d → window n k (overlaid d (replicate 256 0)) ≡ take n (drop k d)
  window-whole n k f g =
      window-part n k f ∙ (ap (take n) (drop-append-le k d behind (omega arith)) ∙ take-append-le n (drop k d) behind (rw length-drop (omega arith)))

part_length : (a n : ℕ) (s : List ℕ) → a + n ≤ length s → length (take n (drop a s)) ≡ n
part_length a n s h = length-take-le n (drop a s) (rw (length-drop a s) (omega arith))

-- ---- the alphas and the row points among the draws
part-elements : (k n a m : ℕ) (s : List ℕ) → a ≡ 2 * k → m ≡ 2 * n → elements (take m (drop a s)) ≡ take n (drop k (elements s))
part-elements k n a m s ea em = rw (ea, em) (elements-take n (drop (2 * k) s) ∙ ap (take n) (sym (elements-drop k s)))

combined-open : (r : Relation) (D : Draws) → combined_table r.m r.bin r.fld D.alphas D.row_bin D.row_fld ≡ combined r D
unfolding combined
combined-open r D = refl

wide : (m q : ℕ) (t : System) → SizedSystem m q t → Wide m t
wide m q t Z = record { rows = Z.rows; a = Z.a.cols; b = Z.b.cols; c = Z.c.cols }

-- ---- the words d of the draws
module _ (R : Rules) (P : ValidRules R) (d : List ℕ) (many : length d ≡ 2 * draw_count (sizes_only_of R)) where
  abbrev r : Relation
  r = relation_of R

  abbrev i : ℕ
  i = bin_at R.q (rows_bin R) (rows_fld R)

  abbrev j : ℕ
  j = fld_at R.q (rows_bin R) (rows_fld R)

  abbrev k : ℕ
  k = alphas_at R.q (rows_bin R) (rows_fld R)

  few : length d ≤ 256
  few = omega (arith, many, draws-small R P)

  -- 256 words
  abbrev all : List ℕ
  all = overlaid d (replicate 256 0)

  abbrev al : List ℕ
  al = take 12 (drop k d)

  abbrev pb : List ℕ
  pb = take (2 * log₂ (rows_bin R)) (drop i d)

  abbrev pf : List ℕ
  pf = take (2 * log₂ (rows_fld R)) (drop j d)

  record Logs : Type 0 where
    q-most : log₂ R.q ≤ 12
    b_most : log₂ (rows_bin R) ≤ 16
    f_most : log₂ (rows_fld R) ≤ 16
    long : length d ≡ 2 * (log₂ R.q + log₂ (rows_bin R) +
        (log₂ R.q + log₂ (rows_fld R) + (log₂ R.q + (log₂ (rows_bin R) + (log₂ (rows_fld R) + (6 + log₂ R.m))))))

  logs : Logs
  logs = record {
    q-most = log-few P.logins;
    b_most = log-most (rows_bin R) P.bin.rows.high P.bin.rows.power;
    f_most = log-most (rows_fld R) P.fld.rows.high P.fld.rows.power;
    long = many;
  }

  al-is : window 12 k all ≡ al
  al-is = let l = logs in window-whole d few 12 k (omega (arith, l.q-most, l.b_most, l.f_most)) (omega (arith, l.long))

  -- a point of b words, from word a on
  point-is : (n a : ℕ) → log₂ n ≤ 16 → a + 32 ≤ 256 → a + 2 * log₂ n ≤ length d → point_in n (window 32 a all) ≡ take (2 * log₂ n) (drop a d)
  point-is n a h f g =
      let e : min (2 * log₂ n) 32 ≡ 2 * log₂ n = omega arith in
      rw e (window-read d few 32 a (2 * log₂ n) (omega arith) f g)

  pb-is : point_in (rows_bin R) (window 32 i all) ≡ pb
  pb-is = let l = logs in point-is (rows_bin R) i l.b_most (omega (arith, l.q-most, l.b_most, l.f_most)) (omega (arith, l.long))

  pf-is : point_in (rows_fld R) (window 32 j all) ≡ pf
  pf-is = let l = logs in point-is (rows_fld R) j l.f_most (omega (arith, l.q-most, l.b_most, l.f_most)) (omega (arith, l.long))

  al-long : length al ≡ 12
  al-long = part_length k 12 d (omega (arith, logs.long))

  pb-long : length pb ≡ 2 * log₂ (rows_bin R)
  pb-long = part_length i (2 * log₂ (rows_bin R)) d (omega (arith, logs.long))

  pf-long : length pf ≡ 2 * log₂ (rows_fld R)
  pf-long = part_length j (2 * log₂ (rows_fld R)) d (omega (arith, logs.long))

  -- the table
  abbrev T : List ℕ
  T = combined_table R.m r.bin r.fld (elements al) (elements pb) (elements pf)

  table-combined : T ≡ combined r (draws_of r (elements d))
  table-combined =
      let D = draws_of (sizes_only_of R) (elements d) in
      let a = log₂ R.q in
      let b = log₂ (rows_bin R) in
      let f = log₂ (rows_fld R) in
      let A : elements al ≡ D.alphas = unfold draws_of in part-elements (a + b + (a + f) + a + b + f) 6 k 12 d (omega arith) refl in
      let B : elements pb ≡ D.row_bin = unfold draws_of in part-elements (a + b + (a + f) + a) b i (2 * b) d (omega arith) refl in
      let F : elements pf ≡ D.row_fld = unfold draws_of in part-elements (a + b + (a + f) + a + b) f j (2 * f) d (omega arith) refl in
      rw (A, B, F) (combined-open r D ∙ ap (combined r) (sym (draws-is R (elements d))))

  -- the inner point
  abbrev y : ℕ
  y = inner_at R.q (rows_bin R) (rows_fld R)

  m-most : log₂ R.m ≤ 16
  m-most = log-most R.m P.columns.high P.columns.power

  pub inner-drawn : elements (point_in R.m (window 32 y all)) ≡ (draws_of r (elements d)).inner
  unfolding draws_of
  inner-drawn =
      let l = logs in
      let a = log₂ R.q in
      let b = log₂ (rows_bin R) in
      let f = log₂ (rows_fld R) in
      ap elements (point-is R.m y m-most (omega (arith, l.q-most, l.b_most, l.f_most)) (omega (arith, l.long)))
      ∙ part-elements (a + b + (a + f) + a + b + f + 6) (log₂ R.m) y (2 * log₂ R.m) d (omega arith) refl

  -- and its front, the low point
  pub low-drawn : elements (point_in (R.m / 2) (window 32 y all)) ≡ low_point r (draws_of r (elements d))
  unfolding low_point draws_of
  low-drawn =
      let l = logs in
      let a = log₂ R.q in
      let b = log₂ (rows_bin R) in
      let f = log₂ (rows_fld R) in
      let c = cols R.m (log₂ R.m) P.columns refl in
      let k = a + b + (a + f) + a + b + f + 6 in
      ap elements (point-is (R.m / 2) y (omega (arith, c.half, m-most)) (omega (arith, l.q-most, l.b_most, l.f_most)) (omega (arith, l.long, c.half)))
      ∙ (part-elements k (log₂ (R.m / 2)) y (2 * log₂ (R.m / 2)) d (omega arith) refl
      ∙ (ap (λ (n : ℕ). take n (drop k (elements d))) (sym c.half) ∙ sym (take-take (log₂ R.m - 1) (log₂ R.m) (drop k (elements d)) (omega arith))))

  -- ---- the words s that the table comes in front of
  module _ (s : List ℕ) (enough : 2 * R.m + 2 * max (rows_bin R) (rows_fld R) ≤ length s) where
    abbrev U : List ℕ
    U = table_at r all s

    table-long : length (words T) ≡ 2 * R.m
    unfolding combined_table
    table-long = words-length T ∙ ap (λ (n : ℕ). 2 * n) (tabulate-length _ R.m)

    pub drawn-table : U ≡ words T ++ (replicate (2 * max (rows_bin R) (rows_fld R)) 0 ++ drop (2 * R.m + 2 * max (rows_bin R) (rows_fld R)) s)
    drawn-table =
        rw al-is (table_is r (wide R.m R.q r.bin P.bin) (wide R.m R.q r.fld P.fld) al pb pf (window 32 i all) (window 32 j all) s al-long pb-is pf-is
        pb-long pf-long enough)

    pub drawn-combined : take R.m (elements U) ≡ combined r (draws_of r (elements d))
    drawn-combined =
        let rest = replicate (2 * max (rows_bin R) (rows_fld R)) 0 ++ drop (2 * R.m + 2 * max (rows_bin R) (rows_fld R)) s in
        let e : take (2 * R.m) U ≡ words T = ap (take (2 * R.m)) drawn-table ∙ take_at (words T) rest (2 * R.m) table-long in
        sym (elements-take R.m U) ∙ ap elements e ∙ elements-words T ∙ table-combined

    pub drawn-beyond : (n : ℕ) → 2 * R.m + 2 * max (rows_bin R) (rows_fld R) ≤ n → Beyond n s U
    drawn-beyond n h =
        let Z = replicate {A = ℕ} (2 * max (rows_bin R) (rows_fld R)) 0 in
        let rest = drop (2 * R.m + 2 * max (rows_bin R) (rows_fld R)) s in
        let l : length (words T ++ Z) ≡ 2 * R.m + 2 * max (rows_bin R) (rows_fld R) =
        length-append (words T) Z ∙ ap₂ ◌+◌ table-long (length-replicate (2 * max (rows_bin R) (rows_fld R)) 0) in
        subst (Beyond n s) (sym (drawn-table ∙ sym (append_assoc (words T) Z rest)))
        (in-front n s (words T ++ Z) rest (omega (arith, l, h)) (rw (l, length-drop) (omega (arith, enough))) (ap (λ (i : ℕ). drop i s) (sym l)))

    -- ---- its value at the inner point, the words s being room
    module _ (passed : Clear (rule_tests R)) where
      value_none : value_refusal 0 (for_one R) (length s) ≡ 0
      unfolding value_refusal rule_tests_by
      value_none =
          let b = R.shapes.bin in
          let f = R.shapes.fld in
          let c = passed in
          let g = c.1.1.1.1 in
          let one : (n : ℕ) → Sized 1 65536 n → ltb 1048576 (1 * n) ≡ false = λ n z. most-passes 1048576 (1 * n) (omega (arith, z.high)) in
          let tests = shape_tests R.m 1 R.shapes ++ (number_tests (total R.shapes) R.numbers ++ ((7, not true) ∷ [])) in
          let rest = number_tests (total R.shapes) R.numbers ++ ((7, not (in_relation r)) ∷ []) in
          let tail = col_tests R.m b ++ (col_tests R.m f ++ (most_tests b ++ most_tests f)) in
          let later : Clear (tail ++ (number_tests (total R.shapes) R.numbers ++ ((7, not true) ∷ []))) =
          clear-join tail (number_tests (total R.shapes) R.numbers ++ ((7, not true) ∷ [])) (clear-front tail rest g.1.1.1.1)
          (clear-join (number_tests (total R.shapes) R.numbers) ((7, not true) ∷ [])
          (clear-front (number_tests (total R.shapes) R.numbers) ((7, not (in_relation r)) ∷ []) (clear-back tail rest g.1.1.1.1)) (refl, tt)) in
          let shaped : Clear tests =
          (c.0, (c.1.0, (c.1.1.0, (one b.a.rows P.bin.rows, (g.0, (g.1.0, (g.1.1.0, (one f.a.rows P.fld.rows, later)))))))) in
          let roomy : Clear (room_test_of (combo_scratch_of R) (length s)) = (most-passes (length s) (combo_scratch_of R) enough, tt) in
          first-refusal-none (column_tests R.m ++ (tests ++ room_test_of (combo_scratch_of R) (length s)))
          (size-passes 2 65536 R.m P.columns, clear-join tests (room_test_of (combo_scratch_of R) (length s)) shaped roomy)

      drawn-at : value_at R all s
          ≡ record {
            code = 0;
            value = mle (combined r (draws_of r (elements d))) (draws_of r (elements d)).inner;
            scratch = replicate (combo_scratch_of R) 0 ++ drop (combo_scratch_of R) s;
          }
      unfolding value_outcome combo_value
      drawn-at = rw (value_none, al-is, pb-is, pf-is, table-combined, inner-drawn)

      pub drawn-value : table_value R all s ≡ mle (combined r (draws_of r (elements d))) (draws_of r (elements d)).inner
      drawn-value = ap (λ (o : CombinedAt). o.value) drawn-at

      pub drawn-left : value_left R all s ≡ cleared_to (R.m + max (rows_bin R) (rows_fld R)) s
      unfolding cleared_to
      drawn-left =
          let n : 2 * (R.m + max (rows_bin R) (rows_fld R)) ≡ combo_scratch_of R = omega arith in
          ap (λ (o : CombinedAt). o.scratch) drawn-at ∙ rw (n, le-leb (combo_scratch_of R) (length s) enough)
