-- How the combined table ends: what its steps leave is the table that the relation gives, and what the entry leaves.
-- Assumes nothing.
use Rattle.std.specs.Prelude.{◌≡◌, ℕ, zero, suc, ◌+◌, ◌*◌, ◌/◌, ◌≤◌, min, max, false, not, eqb, List, [], ◌∷◌, ◌++◌, length, take, drop, replicate}
use Rattle.std.specs.Prelude.{Result}
use Rattle.std.specs.Result.{IsErrAnd}
use mathlib.Core.Path.{refl, sym, ap, ◌∙◌}
use native.Mathlib.Nat.{zero-add, suc-add}
use native.Mathlib.Omega.{arith}
use lib.ListN.{length-append, length-replicate}
use lib.Seq.{take_at, drop_at, take_all}
use borrow.Author.Tests.{eqb-true, ltb-false, ne_eqb, not-false, le-leb}
use Rattle.magnetar_field.specs.declared.refusal.Refusal.{Refusal}
use Rattle.magnetar_field.specs.Number.{number, number_of}
use Rattle.magnetar_field.specs.Sizes.{log₂}
use Rattle.magnetar_field.specs.Words.{elements, words, overlaid}
use Rattle.magnetar_field.proofs.Elements.{overlaid-same, words-length}
use Rattle.magnetar_field.proofs.Tabulation.{tabulate-length}
use Rattle.magnetar_layout.specs.Tests.{Tests, first_refusal, column_tests, Sized}
use Rattle.magnetar_layout.proofs.FirstRefusal.{first-refusal-clear}
use Rattle.magnetar_field.proofs.Handed.{handed}
use Rattle.magnetar_layout.proofs.Passing.{out as refused_by, out-front, late}
use Rattle.magnetar_layout.proofs.Refused.{number-positive}
use Rattle.magnetar_layout.proofs.SizeLaws.{not-bad, log-most}
use Rattle.magnetar_matrix.specs.Matrix.{System}
use Rattle.magnetar_matrix.specs.Batch.{Relation}
use Rattle.magnetar_relation.specs.Rules.{Rules, relation_of, in_relation}
use Rattle.magnetar_relation.specs.RuleTests.{rule_tests, rule_tests_by, shape_tests, number_tests, total}
use Rattle.magnetar_relation.specs.Steps.{cleared_to}
use Rattle.magnetar_matrix.specs.Combined.{combined_table}
use Rattle.magnetar_batch.specs.Entries.{combo_rest, combo_refusal, combo_words, combo_scratch_of, combined, combo_outcome}
use Rattle.magnetar_batch.specs.Systems.{point_tests, table_scratch_tests}
use Rattle.magnetar_batch.specs.TableSteps.{padded, point_in, table_made}
use Rattle.magnetar_layout.proofs.FirstRefusal.{front-none, rest-none}
use Rattle.magnetar_batch.proofs.TableWalk.{Row, table-made}
use Rattle.magnetar_batch.proofs.ColumnLaws.{Wide, combined-is}

-- ---- words in front of others
-- a point of the wanted length, out of an array
pub padded-front : (n : ℕ) (p : List ℕ) → Sized 1 65536 n → length p ≡ 2 * log₂ n → point_in n (padded 32 p) ≡ p
unfolding overlaid
padded-front n p z l =
    let h : log₂ n ≤ 16 = log-most n z.high z.power in
    let k : min (2 * log₂ n) 32 ≡ length p = omega arith in
    rw (k, take_all 32 p (omega arith)) (take_at p (drop (length p) (replicate 32 0)) (length p) refl)

laid : (t out : List ℕ) (k : ℕ) → length t ≡ k → k ≤ length out → overlaid t out ≡ t ++ drop k out
unfolding overlaid
laid t out k l h = rw (take_all (length out) t (omega arith), l)

zeros-on : (a b : ℕ) (l : List ℕ) → replicate {A = ℕ} a 0 ++ (replicate b 0 ++ l) ≡ replicate (a + b) 0 ++ l
zeros-on zero b l = rw (zero-add b)
zeros-on (suc a) b l = rw (suc-add a b) (ap (λ (k : List ℕ). 0 ∷ k) (zeros-on a b l))

cleared-all : (m k : ℕ) (t r : List ℕ) → length t ≡ 2 * m → cleared_to m (t ++ (replicate (2 * k) 0 ++ r)) ≡ replicate (2 * m + 2 * k) 0 ++ r
unfolding cleared_to
cleared-all m k t r l =
    let z = replicate (2 * k) 0 ++ r in
    let h : 2 * m ≤ length (t ++ z) = rw length-append (omega (arith, l)) in
    rw (le-leb (2 * m) (length (t ++ z)) h, drop_at t z (2 * m) l) (zeros-on (2 * m) (2 * k) r)

-- ---- the table
-- a point for n rows
row_of : (n : ℕ) (p : List ℕ) → Sized 1 65536 n → length p ≡ 2 * log₂ n → Row n p
row_of n p z l =
    let h : log₂ n ≤ 16 = log-most n z.high z.power in
    let d : length p / 2 ≡ log₂ n = omega arith in
    record { even = omega arith; short = omega arith; power = rw d z.power }

module _ (R : Relation) (ws : Wide R.m R.bin) (wt : Wide R.m R.fld) where
  abbrev n : ℕ
  n = R.bin.a.rows

  abbrev k : ℕ
  k = R.fld.a.rows

  abbrev room : ℕ
  room = 2 * R.m + 2 * max n k

  -- from alphas and points of the right sizes, which may stand in front of other words
  pub table_is : (al p r p' r' s : List ℕ) → length al ≡ 12 → point_in n p' ≡ p → point_in k r' ≡ r → length p ≡ 2 * log₂ n → length r ≡ 2 * log₂ k
      → room ≤ length s
      → table_made R al p' r' s ≡ words (combined_table R.m R.bin R.fld (elements al) (elements p) (elements r)) ++ (replicate (2 * max n k) 0 ++ drop room s)
  table_is al p r p' r' s la ep er lp lr h =
      table-made R al p' r' s (rw ep (row_of n p ws.rows lp)) (rw er (row_of k r wt.rows lr)) h
      ∙ rw (ep, er, combined-is R.m R.bin R.fld al p r ws wt la)

pub combo-length : (R : Rules) (al p r : List ℕ) → length (combo_words R al p r) ≡ 2 * R.m
unfolding combo_words combined_table
combo-length R al p r = words-length _ ∙ ap (λ (i : ℕ). 2 * i) (tabulate-length _ R.m)

-- ---- what is known where the shapes are not refused
same : (a b : ℕ) → not (eqb a b) ≡ false → a ≡ b
same a b e = eqb-true a b (not-false (eqb a b) e)

-- a system of a size of rows, over m columns
pub record Sides (m : ℕ) (s : System) : Type 0 where
  pub size : Sized 1 65536 s.a.rows
  pub rows_b : s.b.rows ≡ s.a.rows
  pub rows_c : s.c.rows ≡ s.a.rows
  pub cols_a : s.a.cols ≡ m
  pub cols_b : s.b.cols ≡ m
  pub cols_c : s.c.cols ≡ m

pub sides : (R : Rules) → first_refusal 0 (shape_tests R.m R.q R.shapes) ≡ 0 → Sides R.m (relation_of R).bin × Sides R.m (relation_of R).fld
sides R e =
    let c = (first-refusal-clear 0 (shape_tests R.m R.q R.shapes) refl e).1 in
    let f = c.1.1.1.1 in
    let j = f.1.1.1.1 in (
      record {
        size = not-bad c.0;
        rows_b = same _ _ c.1.0;
        rows_c = same _ _ c.1.1.0;
        cols_a = same _ _ j.0;
        cols_b = same _ _ j.1.0;
        cols_c = same _ _ j.1.1.0;
      },
      record {
        size = not-bad f.0;
        rows_b = same _ _ f.1.0;
        rows_c = same _ _ f.1.1.0;
        cols_a = same _ _ j.1.1.1.0;
        cols_b = same _ _ j.1.1.1.1.0;
        cols_c = same _ _ j.1.1.1.1.1.0;
      },
    )

wide_of : (m : ℕ) (s : System) → Sides m s → Wide m s
wide_of m s w = record { rows = w.size; a = w.cols_a; b = w.cols_b; c = w.cols_c }

-- ---- what is known where nothing is refused
module _ (R : Rules) (al p r : List ℕ) (o w : ℕ) where
  abbrev nb : ℕ
  nb = R.shapes.bin.a.rows

  abbrev nf : ℕ
  nf = R.shapes.fld.a.rows

  abbrev rest : Tests
  rest = combo_rest R.m nb nf (length al) (length p) (length r) o w

  -- what is known where nothing is refused
  record ComboFits : Type 0 where
    bin : Wide R.m (relation_of R).bin
    fld : Wide R.m (relation_of R).fld
    alphas : length al ≡ 12
    first : length p ≡ 2 * log₂ nb
    second : length r ≡ 2 * log₂ nf
    enough : combo_scratch_of R ≤ w
    wide : 2 * R.m ≤ o

  combo-fits : combo_refusal R al p r o w ≡ 0 → ComboFits
  unfolding combo_refusal rule_tests_by
  combo-fits e =
      let m = R.m in
      let more = number_tests (total R.shapes) R.numbers ++ ((7, not (in_relation (relation_of R))) ∷ []) in
      let late : first_refusal 0 (rule_tests R ++ rest) ≡ 0 = rest-none (column_tests m) (rule_tests R ++ rest) e in
      let rules : first_refusal 0 (shape_tests m R.q R.shapes ++ more) ≡ 0 = front-none (rule_tests R) rest late in
      let w = sides R (front-none (shape_tests m R.q R.shapes) more rules) in
      let q = (first-refusal-clear 0 rest refl (rest-none (rule_tests R) rest late)).1 in
      record {
        bin = wide_of _ _ w.0;
        fld = wide_of _ _ w.1;
        alphas = same _ _ q.0;
        first = same _ _ q.1.0;
        second = same _ _ q.1.1.0;
        enough = ltb-false _ _ q.1.1.1.0;
        wide = ltb-false _ _ q.1.1.1.1.0;
      }

-- ---- the entry
module _ (R : Rules) (al p r out s : List ℕ) (k : ℕ) (refusal : k ≡ combo_refusal R al p r (length out) (length s)) where
  abbrev made : List ℕ
  made = table_made (relation_of R) (padded 12 al) (padded 32 p) (padded 32 r) s

  pub combo-back : (k ≡ 0 → ⊥) → combined k out s ≡ combo_outcome R al p r out s
  unfolding combo_outcome
  combo-back h = rw (← refusal, ne_eqb k 0 h)

  pub combo-done : (o₁ s₁ : List ℕ) → k ≡ 0 → (o₁ ≡ overlaid (take (2 * R.m) made) out) × (s₁ ≡ cleared_to R.m made)
      → combined 0 o₁ s₁ ≡ combo_outcome R al p r out s
  unfolding combo_outcome combo_words
  combo-done o₁ s₁ z ends =
      let m = R.m in
      let n = R.shapes.bin.a.rows in
      let j = R.shapes.fld.a.rows in
      let f = combo-fits R al p r (length out) (length s) (sym refusal ∙ z) in
      let w = combo_words R al p r in
      let l : length w ≡ 2 * m = combo-length R al p r in
      let wa : padded 12 al ≡ al = overlaid-same al (replicate 12 0) (length-replicate {A = ℕ} 12 0 ∙ sym f.alphas) in
      let ep = padded-front n p f.bin.rows f.first in
      let er = padded-front j r f.fld.rows f.second in
      let e : made ≡ w ++ (replicate (2 * max n j) 0 ++ drop (combo_scratch_of R) s) =
      rw wa (table_is (relation_of R) f.bin f.fld al p r (padded 32 p) (padded 32 r) s f.alphas ep er f.first f.second f.enough) in
      let t : take (2 * m) made ≡ w = rw e (take_at w (replicate (2 * max n j) 0 ++ drop (combo_scratch_of R) s) (2 * m) l) in
      let eo : o₁ ≡ w ++ drop (2 * m) out = ends.0 ∙ rw t (laid w out (2 * m) l f.wide) in
      let es : s₁ ≡ replicate (combo_scratch_of R) 0 ++ drop (combo_scratch_of R) s =
      ends.1 ∙ rw e (cleared-all m (max n j) w (drop (combo_scratch_of R) s) l) in
      rw (← refusal, z, eo, es)

  -- the same from the calls in a row
  pub combo-called : (al₁ p₁ r₁ s₁ o₁ s₂ : List ℕ) → k ≡ 0 → al₁ ≡ padded 12 al → p₁ ≡ padded 32 p → r₁ ≡ padded 32 r
      → s₁ ≡ table_made (relation_of R) al₁ p₁ r₁ s → (o₁ ≡ overlaid (take (2 * R.m) s₁) out) × (s₂ ≡ cleared_to R.m s₁)
      → combined 0 o₁ s₂ ≡ combo_outcome R al p r out s
  combo-called al₁ p₁ r₁ s₁ o₁ s₂ z ea ep er e ends =
      let f : s₁ ≡ made = e ∙ rw (ea, ep, er) in
      combo-done o₁ s₂ z (ends.0 ∙ ap (λ (t : List ℕ). overlaid (take (2 * R.m) t) out) f, ends.1 ∙ ap (cleared_to R.m) f)

-- ---- a call that is turned back
module _ (R : Rules) (al p r out s : List ℕ) where
  abbrev points : Tests
  points = point_tests R.shapes.bin.a.rows R.shapes.fld.a.rows (length al) (length p) (length r)

  abbrev space : Tests
  space = table_scratch_tests R.m R.shapes.bin.a.rows R.shapes.fld.a.rows (length s) (length out)

  module _ (a : Result Unit Refusal) (e : Refusal) (h : IsErrAnd a (λ y. y ≡ e)) where
    abbrev Turned : Type 0
    Turned = combined (number_of a) out s ≡ combo_outcome R al p r out s

    back : number_of a ≡ combo_refusal R al p r (length out) (length s) → Turned
    back f =
        let k = number-positive e in
        let q = handed a e h in
        combo-back R al p r out s (number_of a) f (λ z. omega arith)

    pub size-turned : number e ≡ first_refusal 0 (column_tests R.m) → Turned
    unfolding combo_refusal
    size-turned f = back (out-front (column_tests R.m) (rule_tests R ++ (points ++ space)) a e h f)

    module _ (size : 0 ≡ first_refusal 0 (column_tests R.m)) where
      pub rules-turned : number e ≡ first_refusal 0 (rule_tests R) → Turned
      unfolding combo_refusal
      rules-turned f = back (late (column_tests R.m) (rule_tests R ++ (points ++ space)) size (out-front (rule_tests R) (points ++ space) a e h f))

      module _ (rules : 0 ≡ first_refusal 0 (rule_tests R)) where
        pub points-turned : number e ≡ first_refusal 0 points → Turned
        unfolding combo_refusal
        points-turned f =
            back (late (column_tests R.m) (rule_tests R ++ (points ++ space)) size
            (late (rule_tests R) (points ++ space) rules (out-front points space a e h f)))

        pub room-turned : 0 ≡ first_refusal 0 points → number e ≡ first_refusal 0 space → Turned
        unfolding combo_refusal
        room-turned k f =
            back (late (column_tests R.m) (rule_tests R ++ (points ++ space)) size
            (late (rule_tests R) (points ++ space) rules (late points space k (refused_by space [] a e h f))))

  pub all-passed : 0 ≡ first_refusal 0 (column_tests R.m) → 0 ≡ first_refusal 0 (rule_tests R) → 0 ≡ first_refusal 0 points → 0 ≡ first_refusal 0 space
      → 0 ≡ combo_refusal R al p r (length out) (length s)
  unfolding combo_refusal
  all-passed e f g h = late (column_tests R.m) (rule_tests R ++ (points ++ space)) e (late (rule_tests R) (points ++ space) f (late points space g h))
