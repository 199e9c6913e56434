-- How the combined table's value at a column point ends: what the steps leave is the value that the relation gives, and what the entry leaves.
-- Assumes nothing.
use Rattle.std.specs.Prelude.{◌≡◌, ℕ, ◌+◌, ◌*◌, ◌/◌, ◌^◌, ◌≤◌, min, true, not, List, [], ◌∷◌, ◌++◌, map, length, take, drop, replicate}
use Rattle.std.specs.Prelude.{Result, Ok}
use Rattle.std.specs.Result.{IsErrAnd}
use Rattle.std.proofs.lemmas.Result.{err_from_is_err_and}
use mathlib.Core.Path.{refl, sym, ap, ◌∙◌}
use mathlib.Core.List.{append_assoc}
use native.Mathlib.Omega.{arith}
use lib.ListN.{length-append, length-take, length-drop, length-replicate}
use lib.Pow.{pow_mono}
use lib.Seq.{drop_at, drop-drop, take-append-le, drop-append-le, get_or-take, length-take-le}
use borrow.Author.Tests.{le-leb, eq-eqb, ne_eqb, ltb-false}
use Rattle.magnetar_field.specs.declared.gf128.Gf128.{Gf128}
use Rattle.magnetar_field.specs.declared.refusal.Refusal.{Refusal}
use Rattle.magnetar_field.specs.Gf128.{◌⊕◌, value}
use Rattle.magnetar_field.specs.Number.{number, number_of}
use Rattle.magnetar_field.specs.Sizes.{log₂}
use Rattle.magnetar_field.specs.Tabulate.{tabulate}
use Rattle.magnetar_field.specs.Words.{elements, words}
use Rattle.magnetar_field.proofs.Elements.{elements-length, words-length, words-zero}
use Rattle.magnetar_field.proofs.Tabulation.{tabulate-length, tabulate-get, tabulate-of}
use Rattle.magnetar_field.proofs.Xor.{xor}
use Rattle.magnetar_multilinear.specs.EqTable.{eq_table}
use Rattle.magnetar_multilinear.specs.Entries.{eq_refusal, table_words}
use Rattle.magnetar_multilinear.specs.Multilinear.{mle}
use Rattle.magnetar_multilinear.proofs.EqTables.{eq_table-length, from_one}
use Rattle.magnetar_multilinear.proofs.Refusals.{eq-none}
use Rattle.magnetar_layout.specs.Tests.{Tests, is_size, Sized, first_refusal, column_tests, room_test_of}
use Rattle.magnetar_layout.proofs.FirstRefusal.{first-refusal-clear, front-none, rest-none}
use Rattle.magnetar_field.proofs.Handed.{handed}
use Rattle.magnetar_layout.proofs.Passing.{out, out-front, late}
use Rattle.magnetar_layout.proofs.Refused.{number-positive}
use Rattle.magnetar_layout.proofs.SizeLaws.{not-bad, log-most}
use Rattle.magnetar_matrix.specs.Matrix.{Entry, Matrix, System, row_total, share, swapped, times_at, times}
use Rattle.magnetar_matrix.specs.Batch.{Relation}
use Rattle.magnetar_matrix.specs.Combined.{combined_table, value_by_rows, combined_by_rows}
use Rattle.magnetar_matrix.proofs.ByRows.{SystemSpans, combined-by-rows}
use Rattle.magnetar_matrix.proofs.TableLaws.{raised-zeros}
use Rattle.magnetar_relation.specs.Rules.{Rules, relation_of}
use Rattle.magnetar_relation.specs.RuleTests.{rule_tests_by, shape_tests, number_tests, total}
use Rattle.magnetar_relation.specs.Steps.{behind, cleared_to}
use Rattle.magnetar_relation.specs.EntryWalks.{fold_entries}
use Rattle.magnetar_batch.specs.Entries.{combo_scratch_of}
use Rattle.magnetar_batch.specs.TableSteps.{eq_behind, point_in}
use Rattle.magnetar_batch.specs.Value.{value_refusal, combo_value, valued, value_outcome}
use Rattle.magnetar_batch.specs.ValueSteps.{front_value, front_cleared, row_added, rows_made, matrix_value, matrix_left}
use Rattle.magnetar_batch.specs.ValueSteps.{weighed, system_value, system_left, larger_rows, factors_behind, six_value, six_left}
use Rattle.magnetar_batch.proofs.ColumnLaws.{dot-six}
use Rattle.magnetar_batch.proofs.ComboEnds.{Sides, sides}
use Rattle.magnetar_batch.proofs.Rooms.{elements-behind}
use Rattle.magnetar_batch.proofs.TableWalk.{columns-are}
use Rattle.magnetar_batch.proofs.ValueWalk.{rows-fold}

-- ---- room of k elements in front of other words
-- s is 2 k words, and then x
pub record Kept (k : ℕ) (x s : List ℕ) : Type 0 where
  pub front : List ℕ
  pub is : s ≡ front ++ x
  pub long : length front ≡ 2 * k

room-cleared : (k : ℕ) (x f : List ℕ) → length f ≡ 2 * k → cleared_to k (f ++ x) ≡ words (replicate k 0) ++ x
unfolding cleared_to
room-cleared k x f l =
    let b : 2 * k ≤ length (f ++ x) = rw length-append (omega (arith, l)) in
    rw (le-leb (2 * k) (length (f ++ x)) b, drop_at f x (2 * k) l, words-zero k)

swapped-twice : (es : List Entry) → map swapped (map swapped es) ≡ es
swapped-twice [] = refl
swapped-twice (e ∷ es) = ap (λ (l : List Entry). e ∷ l) (swapped-twice es)

tabulate-front : (f : ℕ → ℕ) (n k : ℕ) → n ≤ k → take n (tabulate f k) ≡ tabulate f n
tabulate-front f n k h =
    tabulate-of (take n (tabulate f k)) f n 0 (length-take-le n (tabulate f k) (rw (tabulate-length f k) h))
    (λ i b. get_or-take n (tabulate f k) i 0 b ∙ tabulate-get f k i 0 (omega (arith, h, b)))

size-told : (n : ℕ) → Sized 1 65536 n → is_size 1 65536 n ≡ true
unfolding is_size
size-told n z = rw (le-leb 1 n z.low, le-leb n 65536 z.high, eq-eqb n (2 ^ log₂ n) z.power)

-- ---- by the m factors e behind k elements
module _ (k m : ℕ) (e r : List ℕ) (le : length e ≡ m) where
  abbrev x : List ℕ
  x = words e ++ r

  -- a row of the entries
  abbrev row : List Entry → ℕ → ℕ
  row es = row_total (share e) es

  rows_made_lem : (es : List Entry) (s : List ℕ) → Kept k x s → rows_made k m es s ≡ words (tabulate (row es) k) ++ x
  rows_made_lem es s g =
      let z = replicate {A = ℕ} k 0 in
      ap (λ (t : List ℕ). fold_entries (row_added k m) es (cleared_to k t)) g.is
      ∙ (ap (fold_entries (row_added k m) es) (room-cleared k x g.front g.long)
      ∙ (sym (rows-fold k m es (words z ++ x))
      ∙ (columns-are k m e r le (map swapped es) z (length-replicate k 0) ∙ rw (swapped-twice es, raised-zeros (row es) k))))

  module _ (n : ℕ) (p : List ℕ) (z : Sized 1 65536 n) (few : n ≤ k) where
    -- the rows' value at the point
    abbrev at : List Entry → ℕ
    at es = mle (tabulate (row es) n) (elements (point_in n p))

    module _ (es : List Entry) (s : List ℕ) (g : Kept k x s) where
      abbrev t : List ℕ
      t = tabulate (row es) k

      long : length (words t) ≡ 2 * k
      long = words-length t ∙ ap (λ (i : ℕ). 2 * i) (tabulate-length (row es) k)

      room : 2 * n ≤ length (words t ++ x)
      room = rw length-append (omega (arith, long, few))

      pub matrix-is : matrix_value k m n p es s ≡ at es
      unfolding matrix_value front_value
      matrix-is =
          let f : take n (elements (words t ++ x)) ≡ tabulate (row es) n =
          ap (take n) (elements-behind t x) ∙ (take-append-le n t (elements x) (rw (tabulate-length (row es) k) few) ∙ tabulate-front (row es) n k few) in
          rw (rows_made_lem es s g, size-told n z, le-leb (2 * n) (length (words t ++ x)) room, f)

      pub matrix-kept : Kept k x (matrix_left k m n es s)
      unfolding matrix_left front_cleared cleared_to
      matrix-kept =
          let b = drop (2 * n) (words t) in
          record {
            front = replicate (2 * n) 0 ++ b;
            is = rw (
              rows_made_lem es s g,
              size-told n z,
              le-leb (2 * n) (length (words t ++ x)) room,
              drop-append-le (2 * n) (words t) x (omega (arith, long, few)),
            )
                (sym (append_assoc (replicate (2 * n) 0) b x));
            long = rw (length-append, length-drop, length-replicate) (omega (arith, long, few));
          }

  -- three of them
  module _ (al : List ℕ) (j : ℕ) (p : List ℕ) (t : System) (z : Sized 1 65536 t.a.rows) (few : t.a.rows ≤ k) (s : List ℕ) (g : Kept k x s) where
    abbrev n : ℕ
    n = t.a.rows

    first : Kept k x (matrix_left k m n t.a.entries s)
    first = matrix-kept n p z few t.a.entries s g

    second : Kept k x (matrix_left k m n t.b.entries (matrix_left k m n t.a.entries s))
    second = matrix-kept n p z few t.b.entries _ first

    pub system-is : system_value k m al j p t s
        ≡ weighed al (min j 3) (at n p z few t.a.entries) (at n p z few t.b.entries) (at n p z few t.c.entries)
    unfolding system_value
    system-is =
        rw (matrix-is n p z few t.a.entries s g, matrix-is n p z few t.b.entries _ first, matrix-is n p z few t.c.entries _ second)

    pub system-kept : Kept k x (system_left k m t s)
    unfolding system_left
    system-kept = matrix-kept n p z few t.c.entries _ second

-- ---- all six
six-sum : (a b c d e f : ℕ) → ((a ⊕ b) ⊕ c) ⊕ ((d ⊕ e) ⊕ f) ≡ a ⊕ (b ⊕ (c ⊕ (d ⊕ (e ⊕ (f ⊕ 0)))))
six-sum a b c d e f = simp xor

-- a matrix of n rows
by_rows : (n : ℕ) (a : Matrix) (p c : List ℕ) → a.rows ≡ n → mle (tabulate (row_total (share (eq_table c)) a.entries) n) p ≡ value_by_rows a p c
unfolding value_by_rows times times_at
by_rows n a p c h = ap (λ (i : ℕ). mle (tabulate (row_total (share (eq_table c)) a.entries) i) p) (sym h)

-- a point in front of words has no more elements than the size asks for
point-few : (n : ℕ) (p : List ℕ) → Sized 1 65536 n → 2 ^ length (elements (point_in n p)) ≤ n
point-few n p z =
    let h : length (elements (point_in n p)) ≤ log₂ n = rw (elements-length, length-take) (omega arith) in
    omega (arith, z.power, pow_mono {i = length (elements (point_in n p))} {j = log₂ n} h)

spans : (m : ℕ) (s : System) (p c : List ℕ) → Sides m s → 2 ^ length c ≤ m → SystemSpans m (elements (point_in s.a.rows p)) c s
spans m s p c w h =
    let few = point-few s.a.rows p w.size in
    record {
      a = record { rows = few; wide = w.cols_a; cols = h };
      b = record { rows = rw w.rows_b few; wide = w.cols_b; cols = h };
      c = record { rows = rw w.rows_c few; wide = w.cols_c; cols = h };
    }

module _ (R : Relation) (ws : Sides R.m R.bin) (wt : Sides R.m R.fld) (size : Sized 2 65536 R.m) (al p r c s : List ℕ)
    (six : length al ≡ 12) (whole : length c ≡ 32) (room : 2 * R.m + 2 * larger_rows R ≤ length s) where
  abbrev K : ℕ
  K = larger_rows R

  abbrev C : List ℕ
  C = point_in R.m c

  most : log₂ R.m ≤ 16
  most = log-most R.m size.high size.power

  C-long : length C ≡ 2 * log₂ R.m
  C-long = rw length-take (omega (arith, whole, most))

  C-power : 2 ^ (length C / 2) ≡ R.m
  C-power = let h : length C / 2 ≡ log₂ R.m = omega (arith, C-long) in rw h (sym size.power)

  -- the factors and what is behind them
  abbrev E : List ℕ
  E = eq_table (elements C)

  E-long : length E ≡ R.m
  E-long = eq_table-length (elements C) ∙ (ap (λ (i : ℕ). 2 ^ i) (elements-length C) ∙ C-power)

  abbrev rest : List ℕ
  rest = drop (2 * K + 2 * R.m) s

  placed : Kept K (words E ++ rest) (factors_behind R c s)
  unfolding eq_behind behind
  placed =
      let w : table_words C ≡ 2 * R.m = ap (λ (i : ℕ). 2 * i) C-power in
      let none : eq_refusal C (drop (2 * K) s) ≡ 0 =
      eq-none C (drop (2 * K) s) (omega (arith, C-long)) (omega (arith, C-long, most)) (rw (w, length-drop) (omega (arith, room))) in
      record {
        front = take (2 * K) s;
        is = rw (le-leb (2 * K) (length s) (omega (arith, room)), none, from_one, w, drop-drop);
        long = length-take-le (2 * K) s (omega (arith, room));
      }

  bin_few : R.bin.a.rows ≤ K
  bin_few = omega arith

  fld_few : R.fld.a.rows ≤ K
  fld_few = omega arith

  after-bin : Kept K (words E ++ rest) (system_left K R.m R.bin (factors_behind R c s))
  after-bin = system-kept K R.m E rest E-long al 0 p R.bin ws.size bin_few (factors_behind R c s) placed

  pub six-value : six_value R al p r c s
      ≡ mle (combined_table R.m R.bin R.fld (elements al) (elements (point_in R.bin.a.rows p)) (elements (point_in R.fld.a.rows r))) (elements C)
  unfolding six_value combined_by_rows
  six-value =
      let b = R.bin in
      let f = R.fld in
      let y = elements C in
      let u = elements (point_in b.a.rows p) in
      let v = elements (point_in f.a.rows r) in
      let few : 2 ^ length y ≤ R.m = rw (elements-length, C-power) (omega arith) in
      let h : length (elements al) ≡ 6 = elements-length al ∙ ap (λ (n : ℕ). n / 2) six in
      rw (
        system-is K R.m E rest E-long al 0 p b ws.size bin_few (factors_behind R c s) placed,
        system-is K R.m E rest E-long al 3 r f wt.size fld_few _ after-bin,
        by_rows b.a.rows b.a u y refl,
        by_rows b.a.rows b.b u y ws.rows_b,
        by_rows b.a.rows b.c u y ws.rows_c,
        by_rows f.a.rows f.a v y refl,
        by_rows f.a.rows f.b v y wt.rows_b,
        by_rows f.a.rows f.c v y wt.rows_c,
      )
      (six-sum _ _ _ _ _ _ ∙ (sym (dot-six (elements al) _ _ _ _ _ _ h)
      ∙ sym (combined-by-rows R.m b f (elements al) u v y (spans R.m b p y ws few) (spans R.m f r y wt few))))

  pub six-left : six_left R c s ≡ replicate (2 * R.m + 2 * K) 0 ++ drop (2 * R.m + 2 * K) s
  unfolding six_left cleared_to
  six-left =
      let g = system-kept K R.m E rest E-long al 3 r R.fld wt.size fld_few _ after-bin in
      let n : 2 * (K + R.m) ≡ 2 * R.m + 2 * K = omega arith in
      let f = g.front ++ words E in
      let l : length f ≡ 2 * R.m + 2 * K = rw (length-append, words-length, E-long) (omega (arith, g.long)) in
      let e : system_left K R.m R.fld (system_left K R.m R.bin (factors_behind R c s)) ≡ f ++ rest = g.is ∙ sym (append_assoc g.front (words E) rest) in
      let b : 2 * R.m + 2 * K ≤ length (f ++ rest) = rw length-append (omega (arith, l)) in
      let d : 2 * K + 2 * R.m ≡ 2 * R.m + 2 * K = omega arith in
      rw (e, n, le-leb (2 * R.m + 2 * K) (length (f ++ rest)) b, drop_at f rest (2 * R.m + 2 * K) l, d)

-- ---- the entry: the rules R as they are lent, n words of scratch
module _ (R : Rules) (n : ℕ) where
  -- what is known where nothing is refused
  record ValueFits : Type 0 where
    size : Sized 2 65536 R.m
    bin : Sides R.m (relation_of R).bin
    fld : Sides R.m (relation_of R).fld
    enough : combo_scratch_of R ≤ n

  value-fits : value_refusal 0 R n ≡ 0 → ValueFits
  unfolding value_refusal rule_tests_by
  value-fits e =
      let m = R.m in
      let last = room_test_of (combo_scratch_of R) n in
      let first = shape_tests m R.q R.shapes in
      let more = number_tests (total R.shapes) R.numbers ++ ((7, not true) ∷ []) in
      let late : first_refusal 0 ((first ++ more) ++ last) ≡ 0 = rest-none (column_tests m) ((first ++ more) ++ last) e in
      let k = (first-refusal-clear 0 (column_tests m) refl (front-none (column_tests m) ((first ++ more) ++ last) e)).1 in
      let w = sides R (front-none first more (front-none (first ++ more) last late)) in
      let q = (first-refusal-clear 0 last refl (rest-none (first ++ more) last late)).1 in
      record {
        size = not-bad k.0;
        bin = w.0;
        fld = w.1;
        enough = ltb-false _ _ q.0;
      }

module _ (R : Rules) (al p r c s : List ℕ) where
  abbrev rules : Tests
  rules = rule_tests_by R.m R.q R.shapes R.numbers true

  abbrev room_for : Tests
  room_for = room_test_of (combo_scratch_of R) (length s)

  -- a call that is turned back
  module _ (a : Result Gf128 Refusal) (e : Refusal) (h : IsErrAnd a (λ y. y ≡ e)) where
    abbrev Turned : Type 0
    Turned = valued a s ≡ value_outcome 0 R al p r c s

    back : number_of a ≡ value_refusal 0 R (length s) → Turned
    unfolding value_outcome
    back f =
        let x = err_from_is_err_and a h in
        let k : number e ≡ value_refusal 0 R (length s) = sym (handed a e h) ∙ f in
        let n : number e ≡ 0 → ⊥ = λ z. let q = number-positive e in omega arith in
        rw (x.1, x.2, ← k, ne_eqb (number e) 0 n)

    pub size-turned : number e ≡ first_refusal 0 (column_tests R.m) → Turned
    unfolding value_refusal
    size-turned f = back (out-front (column_tests R.m) (rules ++ room_for) a e h f)

    pub rules-turned : 0 ≡ first_refusal 0 (column_tests R.m) → number e ≡ first_refusal 0 rules → Turned
    unfolding value_refusal
    rules-turned size f = back (late (column_tests R.m) (rules ++ room_for) size (out-front rules room_for a e h f))

    pub room-turned : 0 ≡ first_refusal 0 (column_tests R.m) → 0 ≡ first_refusal 0 rules → number e ≡ first_refusal 0 room_for → Turned
    unfolding value_refusal
    room-turned size passed f = back (late (column_tests R.m) (rules ++ room_for) size (late rules room_for passed (out room_for [] a e h f)))

  pub all-passed : 0 ≡ first_refusal 0 (column_tests R.m) → 0 ≡ first_refusal 0 rules → 0 ≡ first_refusal 0 room_for
      → 0 ≡ value_refusal 0 R (length s)
  unfolding value_refusal
  all-passed e f g = late (column_tests R.m) (rules ++ room_for) e (late rules room_for f g)

  -- the relation for one login
  abbrev one : Relation
  one = relation_of (record { m = R.m; q = 1; lengths = []; shapes = R.shapes; numbers = R.numbers; entries = R.entries })

  pub value-done : length al ≡ 12 → length c ≡ 32 → 0 ≡ value_refusal 0 R (length s) → (v : Gf128) (s₁ : List ℕ)
      → (value v ≡ six_value one al p r c s) × (s₁ ≡ six_left one c s) → valued (Ok v) s₁ ≡ value_outcome 0 R al p r c s
  unfolding value_outcome combo_value
  value-done six whole k v s₁ e =
      let f = value-fits R (length s) (sym k) in
      rw (
        ← k,
        e.0,
        six-value one f.bin f.fld f.size al p r c s six whole f.enough,
        e.1,
        six-left one f.bin f.fld f.size al p r c s six whole f.enough,
      )
