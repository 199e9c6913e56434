-- How the combined table is made, step by step: what each step does to the words, and that the six matrices leave six columns added up.
-- Assumes nothing.
use Rattle.std.specs.Prelude.{◌≡◌, ℕ, ◌+◌, ◌-◌, ◌*◌, ◌/◌, ◌%◌, ◌^◌, ◌<◌, ◌≤◌, min, max, List, [], ◌∷◌, ◌++◌, map, length, get_or, take, drop, replicate}
use mathlib.Core.Path.{sym, ap, ◌∙◌}
use mathlib.Core.List.{append_assoc}
use native.Mathlib.Omega.{arith}
use lib.ListN.{length-append, length-drop, length-replicate, take-append-drop}
use lib.Seq.{take_at, drop_at, take_all, drop-drop, drop-append-le, length-take-le}
use borrow.Author.Tests.{le-leb, lt-leb}
use borrow.Rule.Slice.PartMut.{put_mid}
use Rattle.magnetar_field.specs.Gf128.{◌⊗◌}
use Rattle.magnetar_field.specs.Sizes.{log₂}
use Rattle.magnetar_field.specs.Words.{elements, words, overlaid}
use Rattle.magnetar_field.proofs.Elements.{elements-length, words-length}
use Rattle.magnetar_multilinear.specs.EqTable.{eq_table_from}
use Rattle.magnetar_multilinear.specs.Entries.{eq_refusal, eq_out, table_words}
use Rattle.magnetar_multilinear.proofs.Refusals.{eq-none}
use Rattle.magnetar_multilinear.proofs.EqTables.{from-length}
use Rattle.magnetar_matrix.specs.Matrix.{Entry, System, row_total, share, swapped}
use Rattle.magnetar_matrix.specs.Batch.{Relation}
use Rattle.magnetar_matrix.specs.Table.{added_at, raised}
use Rattle.magnetar_matrix.proofs.TableLaws.{added-length, raised-length}
use Rattle.magnetar_relation.specs.declared.shapes.SystemShape.{SystemShape}
use Rattle.magnetar_relation.specs.declared.shapes.Shapes.{Shapes}
use Rattle.magnetar_relation.specs.Rules.{matrix_at, entries_in, system_at}
use Rattle.magnetar_relation.specs.Steps.{between, behind, cleared_to, column_added}
use Rattle.magnetar_relation.specs.EntryWalks.{fold_entries}
use Rattle.magnetar_relation.proofs.TableWords.{one-added, raised-none, raised-more, front_read, zeros-cleared, cleared-words}
use Rattle.magnetar_relation.proofs.StepLaws.{cleared-none, behind-some, behind-none}
use Rattle.magnetar_relation.proofs.RangeLaws.{same_drop, system-cut}
use Rattle.magnetar_batch.specs.TableSteps.{eq_behind, cleared_behind, point_in, matrix_added, system_added, table_made}

-- ---- the steps' parts of the words
-- with a point that a step reads
pub eq-behind-read : (m n l j c : ℕ) (p s t : List ℕ) → 2 * m ≤ length s → l ≡ min (2 * j) 32 → j ≡ log₂ n
    → t ≡ eq_out (take l p) c (take (length s - 2 * m) (drop (2 * m) s)) → put_mid (2 * m) (length s - 2 * m) s t ≡ eq_behind m c (point_in n p) s
unfolding eq_behind
eq-behind-read m n l j c p s t h hl hj e =
    let d : l ≡ min (2 * log₂ n) 32 = omega (arith, ap (λ (i : ℕ). 2 * i) hj) in
    behind-some m (eq_out (point_in n p) c) s t h (e ∙ rw d)

pub eq-behind-none : (m c : ℕ) (p s : List ℕ) → length s < 2 * m → s ≡ eq_behind m c p s
unfolding eq_behind
eq-behind-none m c p s h = behind-none m (eq_out p c) s h

-- the first m elements, copied and cleared
pub moved : (m : ℕ) (s t o out : List ℕ) → 2 * m ≤ length s → o ≡ overlaid (take (2 * m) s) out → t ≡ replicate (length (take (2 * m) s)) 0
    → (o ≡ overlaid (take (2 * m) s) out) × (t ++ drop (2 * m) s ≡ cleared_to m s)
moved m s t o out h e f = (e, cleared-words m s t h f)

pub moved_none : (m : ℕ) (s o out : List ℕ) → length s < 2 * m → o ≡ overlaid s out → (o ≡ overlaid (take (2 * m) s) out) × (s ≡ cleared_to m s)
moved_none m s o out h e = (e ∙ ap (λ (u : List ℕ). overlaid u out) (sym (take_all (2 * m) s (omega arith))), cleared-none m s h)

pub cleared-behind-some : (m k j : ℕ) (s t : List ℕ) → k ≡ j → 2 * m + 2 * k ≤ length s
    → t ≡ replicate (length (take (2 * m + 2 * k - 2 * m) (drop (2 * m) s))) 0
    → put_mid (2 * m) (2 * m + 2 * k - 2 * m) s t ≡ cleared_behind m j s
unfolding cleared_behind
cleared-behind-some m k j s t q h e =
    let d : 2 * m + 2 * k - 2 * m ≡ 2 * k = omega arith in
    let l : length (take (2 * k) (drop (2 * m) s)) ≡ 2 * k = length-take-le (2 * k) (drop (2 * m) s) (rw length-drop (omega arith)) in
    rw (← q, le-leb (2 * m + 2 * k) (length s) h, e, d, l, drop-drop (2 * k) (2 * m) s)

pub cleared-behind-none : (m k j : ℕ) (s : List ℕ) → k ≡ j → length s < 2 * m + 2 * k → s ≡ cleared_behind m j s
unfolding cleared_behind
cleared-behind-none m k j s q h = rw (← q, lt-leb (2 * m + 2 * k) (length s) h)

-- ---- a table in front of words
-- s is the table t of m elements, k words behind it, and the words r
pub record Held (m k : ℕ) (t r s : List ℕ) : Type 0 where
  pub behind : List ℕ
  pub is : s ≡ words t ++ (behind ++ r)
  pub wide : length t ≡ m
  pub long : length behind ≡ k

doubled : (m : ℕ) (t : List ℕ) → length t ≡ m → length (words t) ≡ 2 * m
doubled m t l = words-length t ∙ ap (λ (i : ℕ). 2 * i) l

held_start : (m k : ℕ) (s : List ℕ) → 2 * m + k ≤ length s → Held m k (replicate m 0) (drop (2 * m + k) s) (cleared_to m s)
held_start m k s h =
    let d = drop (2 * m) s in
    let e : take k d ++ drop (2 * m + k) s ≡ d = ap (λ (u : List ℕ). take k d ++ u) (sym (drop-drop k (2 * m) s)) ∙ take-append-drop k d in
    record {
      behind = take k d;
      is = zeros-cleared m s (omega arith) ∙ ap (λ (u : List ℕ). words (replicate m 0) ++ u) (sym e);
      wide = length-replicate m 0;
      long = length-take-le k d (rw length-drop (omega arith));
    }

-- ---- the entries of one matrix, with a table of factors behind
module _ (m n : ℕ) (f r : List ℕ) (lf : length f ≡ n) where
  second-read : (t : List ℕ) (j : ℕ) → length t ≡ m → between m n (words t ++ (words f ++ r)) j ≡ get_or f j 0
  unfolding between
  second-read t j l = rw (drop_at (words t) (words f ++ r) (2 * m) (doubled m t l), front_read n f r lf)

  one-column : (e : Entry) (t : List ℕ) → length t ≡ m
      → column_added m n e (words t ++ (words f ++ r)) ≡ words (added_at t e.col (share f (swapped e))) ++ (words f ++ r)
  unfolding column_added share
  one-column e t l = rw (second-read t e.row l) (one-added m e.col (e.value ⊗ get_or f e.row 0) t (words f ++ r) l)

  pub columns-are : (es : List Entry) (t : List ℕ) → length t ≡ m
      → fold_entries (column_added m n) es (words t ++ (words f ++ r)) ≡ words (raised (row_total (share f) (map swapped es)) t) ++ (words f ++ r)
  unfolding fold_entries
  columns-are [] t l = ap (λ (u : List ℕ). words u ++ (words f ++ r)) (raised-none (share f) t)
  columns-are (e ∷ es) t l =
      ap (fold_entries (column_added m n) es) (one-column e t l)
      ∙ (columns-are es (added_at t e.col (share f (swapped e))) (added-length t e.col (share f (swapped e)) ∙ l)
      ∙ ap (λ (u : List ℕ). words u ++ (words f ++ r)) (raised-more (share f) (swapped e) (map swapped es) t))

-- ---- one matrix
-- the words p are a point for n rows
pub record Row (n : ℕ) (p : List ℕ) : Type 0 where
  pub even : length p % 2 ≡ 0
  pub short : length p ≤ 40
  pub power : n ≡ 2 ^ (length p / 2)

-- what it adds to the columns
abbrev pub column_of : ℕ → List ℕ → List Entry → ℕ → ℕ
column_of c p es = row_total (share (eq_table_from c (elements p))) (map swapped es)

module _ (m n c : ℕ) (p : List ℕ) (w : Row n p) where
  factors-length : length (eq_table_from c (elements p)) ≡ n
  factors-length = from-length c (elements p) ∙ (ap (λ (i : ℕ). 2 ^ i) (elements-length p) ∙ sym w.power)

  eq-behind-are : (t b r : List ℕ) → length t ≡ m → 2 * n ≤ length b
      → eq_behind m c p (words t ++ (b ++ r)) ≡ words t ++ (words (eq_table_from c (elements p)) ++ (drop (2 * n) b ++ r))
  unfolding eq_behind behind
  eq-behind-are t b r l h =
      let d : length (words t) ≡ 2 * m = doubled m t l in
      let k : 2 * m ≤ length (words t ++ (b ++ r)) = rw length-append (omega (arith, d)) in
      let tw : table_words p ≡ 2 * n = ap (λ (i : ℕ). 2 * i) (sym w.power) in
      let room : table_words p ≤ length (b ++ r) = rw (length-append, tw) (omega arith) in
      let none : eq_refusal p (b ++ r) ≡ 0 = eq-none p (b ++ r) w.even w.short room in
      rw (
        le-leb (2 * m) (length (words t ++ (b ++ r))) k,
        take_at (words t) (b ++ r) (2 * m) d,
        drop_at (words t) (b ++ r) (2 * m) d,
        none,
        tw,
        drop-append-le (2 * n) b r h,
      )

  matrix-held : (k : ℕ) (t r s : List ℕ) (es : List Entry) → 2 * n ≤ k → Held m k t r s
      → Held m k (raised (column_of c p es) t) r (fold_entries (column_added m n) es (eq_behind m c p s))
  matrix-held k t r s es h g =
      let f = eq_table_from c (elements p) in
      let d = drop (2 * n) g.behind in
      let e = eq-behind-are t g.behind r g.wide (omega (arith, h, g.long)) in
      record {
        behind = words f ++ d;
        is = ap (λ (u : List ℕ). fold_entries (column_added m n) es (eq_behind m c p u)) g.is
            ∙ (ap (fold_entries (column_added m n) es) e ∙ (columns-are m n f (d ++ r) factors-length es t g.wide
            ∙ ap (λ (u : List ℕ). words (raised (column_of c p es) t) ++ u) (sym (append_assoc (words f) d r))));
        wide = raised-length (column_of c p es) t ∙ g.wide;
        long = rw (length-append, length-drop) (omega (arith, doubled n f factors-length, h, g.long));
      }

held-end : (m k : ℕ) (t r s : List ℕ) → Held m (2 * k) t r s → cleared_behind m k s ≡ words t ++ (replicate (2 * k) 0 ++ r)
unfolding cleared_behind
held-end m k t r s g =
    let b = g.behind in
    let d : length (words t) ≡ 2 * m = doubled m t g.wide in
    let e : words t ++ (b ++ r) ≡ (words t ++ b) ++ r = sym (append_assoc (words t) b r) in
    let l : length (words t ++ b) ≡ 2 * m + 2 * k = rw length-append (omega (arith, d, g.long)) in
    let h : 2 * m + 2 * k ≤ length (words t ++ (b ++ r)) = rw (e, length-append) (omega (arith, l)) in
    let q : drop (2 * m + 2 * k) (words t ++ (b ++ r)) ≡ r = rw e (drop_at (words t ++ b) r (2 * m + 2 * k) l) in
    rw (g.is, le-leb (2 * m + 2 * k) (length (words t ++ (b ++ r))) h, take_at (words t) (b ++ r) (2 * m) d, q)

-- ---- a system, and both
-- the columns of the system's matrices at the point p, with the alphas from k on, added to the table
abbrev pub three_raised : (al : List ℕ) → (k : ℕ) → (p : List ℕ) → System → List ℕ → List ℕ
three_raised al k p t u =
    raised (column_of (get_or (elements al) (k + 2) 0) p t.c.entries) (raised (column_of (get_or (elements al) (k + 1) 0) p t.b.entries)
    (raised (column_of (get_or (elements al) k 0) p t.a.entries) u))

system-held : (m : ℕ) (al : List ℕ) (k : ℕ) (p : List ℕ) (t : System) (j : ℕ) (u r s : List ℕ) → Row t.a.rows (point_in t.a.rows p)
    → 2 * t.a.rows ≤ j → Held m j u r s → Held m j (three_raised al k (point_in t.a.rows p) t u) r (system_added m al k p t s)
system-held m al k p t j u r s w h g =
    let n = t.a.rows in
    let q = point_in n p in
    let a : ℕ → ℕ = λ i. get_or (elements al) i 0 in
    let g₁ = matrix-held m n (a k) q w j u r s t.a.entries h g in
    let g₂ = matrix-held m n (a (k + 1)) q w j _ r _ t.b.entries h g₁ in
    matrix-held m n (a (k + 2)) q w j _ r _ t.c.entries h g₂

pub table-made : (R : Relation) (al p r s : List ℕ) → let n = R.bin.a.rows in let k = R.fld.a.rows in let j = 2 * max n k in
    Row n (point_in n p) → Row k (point_in k r) → 2 * R.m + j ≤ length s
    → table_made R al p r s
    ≡ words (three_raised al 3 (point_in k r) R.fld (three_raised al 0 (point_in n p) R.bin (replicate R.m 0))) ++ (replicate j 0 ++ drop (2 * R.m + j) s)
table-made R al p r s wp wr h =
    let m = R.m in
    let n = R.bin.a.rows in
    let k = R.fld.a.rows in
    let j = 2 * max n k in
    let rest = drop (2 * m + j) s in
    let g₁ = system-held m al 0 p R.bin j (replicate m 0) rest (cleared_to m s) wp (omega arith) (held_start m j s h) in
    let g₂ = system-held m al 3 r R.fld j _ rest _ wr (omega arith) g₁ in
    held-end m (max n k) _ rest _ g₂

-- ---- the calls in a row
-- three matrices, from places that were cut where the entries es end
pub system-added : (m : ℕ) (al : List ℕ) (k : ℕ) (p : List ℕ) (t : SystemShape) (a : ℕ) (es : List Entry) (b c : ℕ)
    → b ≡ min (a + t.a.entries) (length es) → c ≡ min (b + t.b.entries) (length es) → (s s₁ s₂ s₃ : List ℕ)
    → s₁ ≡ matrix_added m t.a.rows al k p (matrix_at t.a a es) s → s₂ ≡ matrix_added m t.a.rows al (k + 1) p (matrix_at t.b b es) s₁
    → s₃ ≡ matrix_added m t.a.rows al (k + 2) p (matrix_at t.c c es) s₂ → s₃ ≡ system_added m al k p (system_at t a es) s
system-added m al k p t a es b c eb ec s s₁ s₂ s₃ e₁ e₂ e₃ =
    let d₂ = same_drop b (a + t.a.entries) es (omega (arith, eb)) in
    let d₃ = same_drop c (a + t.a.entries + t.b.entries) es (omega (arith, eb, ec)) in
    rw (e₃, e₂, e₁, d₃, d₂)

-- both systems
pub both-added : (m : ℕ) (sh : Shapes) (es : List Entry) (al p r : List ℕ) (a : ℕ) → a ≡ min (entries_in sh.bin) (length es)
    → (s s₁ s₂ s₃ s₄ : List ℕ) → s₁ ≡ cleared_to m s → s₂ ≡ system_added m al 0 p (system_at sh.bin 0 es) s₁
    → s₃ ≡ system_added m al 3 r (system_at sh.fld a es) s₂ → s₄ ≡ cleared_behind m (max sh.bin.a.rows sh.fld.a.rows) s₃
    → s₄ ≡ cleared_behind m (max sh.bin.a.rows sh.fld.a.rows)
    (system_added m al 3 r (system_at sh.fld (entries_in sh.bin) es) (system_added m al 0 p (system_at sh.bin 0 es) (cleared_to m s)))
both-added m sh es al p r a ea s s₁ s₂ s₃ s₄ e₁ e₂ e₃ e₄ =
    let j = max sh.bin.a.rows sh.fld.a.rows in
    let f = system_at sh.fld (entries_in sh.bin) es in
    let b = system_at sh.bin 0 es in
    let c : system_at sh.fld a es ≡ f = system-cut sh.fld (entries_in sh.bin) a es ea in
    e₄ ∙ ap (cleared_behind m j) (e₃ ∙ (ap (λ (t : System). system_added m al 3 r t s₂) c
    ∙ ap (system_added m al 3 r f) (e₂ ∙ ap (system_added m al 0 p b) e₁)))
