-- The products, one table after the other, and all six as the outer rounds want them.
-- Assumes nothing.
use mathlib.Core.Path.{◌≡◌, refl, sym, ap, ap₂, ◌∙◌, subst}
use mathlib.Core.Bool.{Bool, true, false, cond}
use mathlib.Core.List.{List, [], ◌∷◌, ◌++◌}
use Prim.Native.Nat.{ℕ, zero, suc, ◌+◌, ◌-◌, ◌*◌, ◌/◌, ◌≤◌, ◌<◌, min}
use native.Mathlib.Nat.{zero-add, mul_left_comm}
use native.Mathlib.Omega.{arith}
use lib.Dec.{ltb}
use lib.ListN.{length, get_or, take, drop, length-drop}
use lib.Seq.{drop-drop}
use borrow.Rule.Slice.PartMut.{put_mid}
use Rattle.magnetar_field.specs.Words.{elements, words}
use Rattle.magnetar_field.proofs.Elements.{words-length}
use Rattle.magnetar_field.proofs.Tabulation.{tabulate-length}
use Rattle.magnetar_layout.specs.Tests.{Sized}
use Rattle.magnetar_matrix.specs.Matrix.{Entry, Matrix, System, times, times_at}
use Rattle.magnetar_matrix.specs.Batch.{batch_products}
use Rattle.magnetar_matrix.specs.Packed.{packed_table}
use Rattle.magnetar_matrix.proofs.Blocks.{blocks-length}
use Rattle.magnetar_matrix.proofs.TableLaws.{elements-words}
use Rattle.magnetar_r1cs.specs.Entries.{range_out}
use Rattle.magnetar_r1cs.proofs.Ranges.{range-left}
use Rattle.magnetar_batch.proofs.Rooms.{back-part, back-put}
use Rattle.magnetar_protocol.specs.RunSizes.{SizedSystem}
use Rattle.magnetar_prover.specs.Entries.{table_at, block_words, tables_of}
use Rattle.magnetar_prover.proofs.Slots.{take-of-drop, mid-length, mid-before, mid-behind, mid_at, mid_back}
use Rattle.magnetar_layout.proofs.Laid.{even-size}
use Rattle.magnetar_relation.specs.declared.shapes.SystemShape.{SystemShape}
use Rattle.magnetar_relation.specs.Rules.{Rules, relation_of, system_at, entries_in}
use Rattle.magnetar_relation.proofs.RangeLaws.{same_drop, range-is}
use Rattle.magnetar_spartan.specs.declared.products.Part.{Part}
use Rattle.magnetar_spartan.specs.Refusals.{rows_bin, rows_fld}
use Rattle.magnetar_spartan.specs.Products.{product_words, part_in, part_of, matrix_in, matrix_no, words_bin, words_fld, words_no, slot, place_no}
use Rattle.magnetar_spartan.specs.Products.{table_of, Placed, ValidProducts, ProductLeft, tables_wanted, Products, ProductsLeft}

-- ---- one table t of n words at place p of s, in whose place the words made stand
module _ (n p : ℕ) (t s made : List ℕ) (l : length (words t) ≡ n) (long : length made ≡ length s) (same : (o : ℕ) → n ≤ o → drop o made ≡ drop o s)
    (h : n ≤ p) (g : p + n ≤ length s) where
  abbrev moved : List ℕ
  moved = put_mid p (p + n - p) made (words t)

  room : p + n ≤ length made
  room = omega (arith, long, g)

  from : (o : ℕ) (u : List ℕ) → p + n ≤ o → drop o u ≡ drop (o - (p + n)) (drop (p + n) u)
  from o u k = let q : p + n + (o - (p + n)) ≡ o = omega arith in sym (drop-drop (o - (p + n)) (p + n) u ∙ ap (λ (i : ℕ). drop i u) q)

  put-placed : Placed n p t s moved
  put-placed = record {
    long = mid-length made (words t) p n room l ∙ long;
    here = ap elements (mid_at made (words t) p n room l) ∙ elements-words t;
    before = λ o k a b. mid-before made (words t) p n room l o k b ∙ ap (take k) (same o a);
    behind = λ o k a. mid-behind made (words t) p n room l o k a ∙ ap (take k) (same o (omega arith));
    rest = λ o a. from o moved a ∙ (ap (drop (o - (p + n))) (mid_back made (words t) p n room l) ∙ (sym (from o made a) ∙ same o (omega arith)));
  }

module _ (n p : ℕ) (t s : List ℕ) (l : length (words t) ≡ n) (h : n ≤ p) (g : p + n ≤ length s) where
  -- made in its place
  placed-there : (u : List ℕ) → u ≡ words t ++ drop n (drop p s) → Placed n p t s (put_mid p (length s - p) s u)
  placed-there u e =
      let d : p + n - p ≡ n = omega arith in
      let f : put_mid p (length s - p) s u ≡ put_mid p (p + n - p) s (words t) = back-put s u p ∙ rw (e, d) in
      subst (Placed n p t s) (sym f) (put-placed n p t s s l refl (λ o k. refl) h g)

-- ---- the part of a matrix
-- it has the rows and the entries of the matrix a, among all entries es, and the table at place p
record PartIs (h : Part) (es : List Entry) (a : Matrix) (p : ℕ) : Type 0 where
  rows : h.rows ≡ a.rows
  entries : take (h.to - h.from) (drop h.from es) ≡ a.entries
  place : h.place ≡ p

slot-fits : (k w : ℕ) → (w ≤ slot k * w) × (slot k * w + w ≤ 4 * w)
slot-fits k w = go (ltb k 2) (ltb k 3)
  where
    go : (b c : Bool) → (w ≤ cond b 1 (cond c 2 3) * w) × (cond b 1 (cond c 2 3) * w + w ≤ 4 * w)
    go true c = (omega arith, omega arith)
    go false true = (omega arith, omega arith)
    go false false = (omega arith, omega arith)

-- i' is place i, cut where the entries end
part_in_lem : (k q : ℕ) (t : SystemShape) (p i i' : ℕ) (es : List Entry) → i' ≡ min i (length es)
    → PartIs (part_in k q t p i' (length es)) es (matrix_in k (system_at t i es)) (p + slot k * product_words q t.a.rows)
part_in_lem k q t p i i' es e = go (ltb k 2) (ltb k 3)
  where
    h : ℕ
    h = length es

    w : ℕ
    w = product_words q t.a.rows

    j : ℕ
    j = min (i' + t.a.entries) (length es)

    l : ℕ
    l = min (j + t.b.entries) (length es)

    there : (a a' n z : ℕ) → min a' (length es) ≡ min a (length es) → z ≡ min (a' + n) (length es) → take (z - a') (drop a' es) ≡ take n (drop a es)
    there a a' n z g f = range-is es a' n z f ∙ ap (take n) (same_drop a' a es g)

    go : (b c : Bool)
        → PartIs (cond b (record { place = p + w; rows = t.a.rows; from = i'; to = j })
        (cond c (record { place = p + 2 * w; rows = t.b.rows; from = j; to = l })
        (record { place = p + 3 * w; rows = t.c.rows; from = l; to = min (l + t.c.entries) h }))) es
        (cond b (system_at t i es).a (cond c (system_at t i es).b (system_at t i es).c)) (p + cond b 1 (cond c 2 3) * w)
    go true c = record { rows = refl; entries = there i i' t.a.entries j (omega (arith, e)) refl; place = omega arith }
    go false true = record { rows = refl; entries = there (i + t.a.entries) j t.b.entries l (omega (arith, e)) refl; place = refl }
    go false false = record {
      rows = refl;
      entries = there (i + t.a.entries + t.b.entries) l t.c.entries (min (l + t.c.entries) h) (omega (arith, e)) refl;
      place = refl;
    }

-- ---- a table's words
table-words : (a : Matrix) (ws x : List ℕ) (q w n : ℕ) → a.rows ≡ n → length (words (packed_table a ws x q w)) ≡ 2 * (q * n)
unfolding packed_table batch_products times
table-words a ws x q w n e =
    words-length (packed_table a ws x q w) ∙ ap (λ (i : ℕ). 2 * i) (blocks-length _ q n (λ u. tabulate-length _ a.rows ∙ e))

-- it sees the rows and the entries alone
table_same : (a : Matrix) (n m : ℕ) (es : List Entry) (ws x : List ℕ) (q w : ℕ) → n ≡ a.rows → es ≡ a.entries
    → packed_table (record { rows = n; cols = m; entries = es }) ws x q w ≡ packed_table a ws x q w
unfolding packed_table batch_products times times_at
table_same a n m es ws x q w e f = rw (e, f)

-- ---- table k of the rules
module _ (k : ℕ) (R : Rules) (ws x s : List ℕ) (ok : ValidProducts R (length ws) (length x) (length s)) where
  abbrev a : Matrix
  a = matrix_no k (relation_of R)

  bin_words : product_words R.q (rows_bin R) ≡ words_bin R
  bin_words =
      let i : min R.q 4096 ≡ R.q = omega (arith, ok.logins.high) in
      let j : min (rows_bin R) 65536 ≡ rows_bin R = omega (arith, ok.bin.rows.high) in
      rw (i, j)

  fld_words : product_words R.q (rows_fld R) ≡ words_fld R
  fld_words =
      let i : min R.q 4096 ≡ R.q = omega (arith, ok.logins.high) in
      let j : min (rows_fld R) 65536 ≡ rows_fld R = omega (arith, ok.fld.rows.high) in
      rw (i, j)

  part-is : PartIs (part_of k R.q R.shapes (length R.entries)) R.entries a (place_no k R)
  part-is = go (ltb k 4)
    where
      go : (b : Bool) → PartIs (cond b (part_in k R.q R.shapes.bin 0 0 (length R.entries))
          (part_in (k - 4) R.q R.shapes.fld (4 * product_words R.q (rows_bin R)) (min (0 + entries_in R.shapes.bin) (length R.entries)) (length R.entries)))
          R.entries (cond b (matrix_in k (relation_of R).bin) (matrix_in (k - 4) (relation_of R).fld))
          (cond b (slot k * cond b (words_bin R) (words_fld R)) (4 * words_bin R + slot (k - 4) * cond b (words_bin R) (words_fld R)))
      go true =
          let e : 0 + slot k * product_words R.q (rows_bin R) ≡ slot k * words_bin R = rw (bin_words, zero-add) in
          subst (PartIs _ R.entries (matrix_in k (relation_of R).bin)) e (part_in_lem k R.q R.shapes.bin 0 0 0 R.entries (omega arith))
      go false =
          let e : 4 * product_words R.q (rows_bin R) + slot (k - 4) * product_words R.q (rows_fld R) ≡ 4 * words_bin R + slot (k - 4) * words_fld R =
          rw (bin_words, fld_words) in
          subst (PartIs _ R.entries (matrix_in (k - 4) (relation_of R).fld)) e
          (part_in_lem (k - 4) R.q R.shapes.fld (4 * product_words R.q (rows_bin R)) (entries_in R.shapes.bin) _ R.entries (rw zero-add))

  -- the rows are the system's, and the table is within the words
  record Fits (a : Matrix) (w p : ℕ) : Type 0 where
    n : ℕ
    rows : a.rows ≡ n
    size : Sized 1 65536 n
    most : R.q * n ≤ 1048576
    words_are : w ≡ 2 * (R.q * n)
    free : w ≤ p
    room : p + w ≤ length s

  rows_in : (j m q : ℕ) (t : System) → SizedSystem m q t → (matrix_in j t).rows ≡ t.a.rows
  rows_in j m q t Z = go (ltb j 2) (ltb j 3)
    where
      go : (b c : Bool) → (cond b t.a (cond c t.b t.c)).rows ≡ t.a.rows
      go true c = refl
      go false true = Z.b.rows
      go false false = Z.c.rows

  fits : Fits a (words_no k R) (place_no k R)
  fits = go (ltb k 4)
    where
      go : (b : Bool) → Fits (cond b (matrix_in k (relation_of R).bin) (matrix_in (k - 4) (relation_of R).fld)) (cond b (words_bin R) (words_fld R))
          (cond b (slot k * cond b (words_bin R) (words_fld R)) (4 * words_bin R + slot (k - 4) * cond b (words_bin R) (words_fld R)))
      go true =
          let f = slot-fits k (words_bin R) in record {
            n = rows_bin R;
            rows = rows_in k R.m R.q (relation_of R).bin ok.bin;
            size = ok.bin.rows;
            most = ok.bin.total;
            words_are = refl;
            free = f.0;
            room = omega (arith, f.1, ok.room);
          }
      go false =
          let f = slot-fits (k - 4) (words_fld R) in record {
            n = rows_fld R;
            rows = rows_in (k - 4) R.m R.q (relation_of R).fld ok.fld;
            size = ok.fld.rows;
            most = ok.fld.total;
            words_are = refl;
            free = omega (arith, f.0);
            room = omega (arith, f.1, ok.room);
          }

  -- the words of the table, however the columns are counted
  abbrev h : Part
  h = part_of k R.q R.shapes (length R.entries)

  abbrev made : ℕ → Matrix
  made m = record { rows = h.rows; cols = m; entries = take (h.to - h.from) (drop h.from R.entries) }

  abbrev T : List ℕ
  T = table_of R ws x a

  made-is : (m : ℕ) → table_of R ws x (made m) ≡ T
  made-is m = table_same a h.rows m (take (h.to - h.from) (drop h.from R.entries)) ws x R.q (R.m / 2) part-is.rows part-is.entries

  even : 2 * (R.m / 2) ≡ R.m
  even = even-size R.m ok.columns

  rows_are : h.rows ≡ fits.n
  rows_are = part-is.rows ∙ fits.rows

  T-long : length (words T) ≡ words_no k R
  T-long = table-words a ws x R.q (R.m / 2) fits.n fits.rows ∙ sym fits.words_are

  twice : R.q * (2 * h.rows) ≡ words_no k R
  twice = ap (λ (i : ℕ). R.q * (2 * i)) rows_are ∙ (mul_left_comm R.q 2 fits.n ∙ sym fits.words_are)

  pub no_room : (g : Part) → g ≡ h → length s < g.place → ⊥
  no_room g e l =
      let f : g.place ≡ place_no k R = ap (λ (y : Part). y.place) e ∙ part-is.place in
      omega (arith, f, l, fits.room)

  -- made in its place by a loop over ranges
  pub there : (g : Part) → g ≡ h → (u : List ℕ)
      → u ≡ range_out (record { rows = g.rows; cols = 2 * (R.m / 2); entries = take (g.to - g.from) (drop g.from R.entries) }) ws x R.q
      (R.m / 2) (take (length s - g.place) (drop g.place s))
      → Placed (words_no k R) (place_no k R) T s (put_mid g.place (length s - g.place) s u)
  there g eg u eu =
      let M = made (2 * (R.m / 2)) in
      let e : g.place ≡ place_no k R = ap (λ (y : Part). y.place) eg ∙ part-is.place in
      let room : R.q * (2 * h.rows) ≤ length (drop (place_no k R) s) = rw (length-drop, twice) (omega (arith, fits.room)) in
      let r = range-left M ws x R.q (R.m / 2) (drop (place_no k R) s) (subst (Sized 2 65536) (sym even) ok.columns) ok.logins ok.packed
      (ok.public ∙ ap (λ (i : ℕ). R.q * (i - 2)) (sym even)) (subst (Sized 1 65536) (sym rows_are) fits.size) (rw rows_are fits.most) room in
      let f : u ≡ words T ++ drop (words_no k R) (drop (place_no k R) s) =
      eu ∙ (ap (λ (y : Part). range_out (record { rows = y.rows; cols = 2 * (R.m / 2); entries = take (y.to - y.from) (drop y.from R.entries) }) ws x R.q
      (R.m / 2)
      (take (length s - g.place) (drop g.place s))) eg
      ∙ (ap (λ (i : ℕ). range_out M ws x R.q (R.m / 2) (take (length s - i) (drop i s))) e
      ∙ (ap (range_out M ws x R.q (R.m / 2)) (back-part s (place_no k R))
      ∙ (r ∙ ap₂ (λ (l : List ℕ) (i : ℕ). words l ++ drop i (drop (place_no k R) s)) (made-is (2 * (R.m / 2))) twice)))) in
      subst (λ (i : ℕ). Placed (words_no k R) (place_no k R) T s (put_mid i (length s - i) s u)) (sym e)
      (placed-there (words_no k R) (place_no k R) T s T-long fits.free fits.room u f)

-- ---- all six
module _ (R : Rules) (ws x s₀ s₁ s₂ s₃ s₄ s₅ s₆ : List ℕ) (p₁ : ProductLeft 5 R ws x s₀ s₁) (p₂ : ProductLeft 6 R ws x s₁ s₂) (p₃ : ProductLeft 7 R ws x s₂ s₃)
    (p₄ : ProductLeft 1 R ws x s₃ s₄) (p₅ : ProductLeft 2 R ws x s₄ s₅) (p₆ : ProductLeft 3 R ws x s₅ s₆) where
  module _ (ok : ValidProducts R (length ws) (length x) (length s₀)) where
    abbrev B : ℕ
    B = words_bin R

    abbrev F : ℕ
    F = words_fld R

    more : (u v : List ℕ) → length v ≡ length u → ValidProducts R (length ws) (length x) (length u) → ValidProducts R (length ws) (length x) (length v)
    more u v e = subst (ValidProducts R (length ws) (length x)) (sym e)

    af : Placed F (4 * B + 1 * F) (table_of R ws x (relation_of R).fld.a) s₀ s₁
    af = p₁ ok

    ok₁ : ValidProducts R (length ws) (length x) (length s₁)
    ok₁ = more s₀ s₁ af.long ok

    bf : Placed F (4 * B + 2 * F) (table_of R ws x (relation_of R).fld.b) s₁ s₂
    bf = p₂ ok₁

    ok₂ : ValidProducts R (length ws) (length x) (length s₂)
    ok₂ = more s₁ s₂ bf.long ok₁

    cf : Placed F (4 * B + 3 * F) (table_of R ws x (relation_of R).fld.c) s₂ s₃
    cf = p₃ ok₂

    ok₃ : ValidProducts R (length ws) (length x) (length s₃)
    ok₃ = more s₂ s₃ cf.long ok₂

    ab : Placed B (1 * B) (table_of R ws x (relation_of R).bin.a) s₃ s₄
    ab = p₄ ok₃

    ok₄ : ValidProducts R (length ws) (length x) (length s₄)
    ok₄ = more s₃ s₄ ab.long ok₃

    bb : Placed B (2 * B) (table_of R ws x (relation_of R).bin.b) s₄ s₅
    bb = p₅ ok₄

    cb : Placed B (3 * B) (table_of R ws x (relation_of R).bin.c) s₅ s₆
    cb = p₆ (more s₄ s₅ bb.long ok₄)

    -- the tables of fld are behind those of bin
    from-bin : (o : ℕ) → 4 * B ≤ o → take F (drop o s₆) ≡ take F (drop o s₃)
    from-bin o h = cb.behind o F (omega arith) ∙ (bb.behind o F (omega arith) ∙ ab.behind o F (omega arith))

    at-ab : table_at B B s₆ ≡ table_of R ws x (relation_of R).bin.a
    at-ab =
        let e : 1 * B ≡ B = omega arith in
        ap elements (cb.before B B (omega arith) (omega arith) ∙ bb.before B B (omega arith) (omega arith))
        ∙ (ap (λ (i : ℕ). table_at i B s₄) (sym e) ∙ ab.here)

    at-bb : table_at (2 * B) B s₆ ≡ table_of R ws x (relation_of R).bin.b
    at-bb = ap elements (cb.before (2 * B) B (omega arith) (omega arith)) ∙ bb.here

    at-af : table_at (4 * B + F) F s₆ ≡ table_of R ws x (relation_of R).fld.a
    at-af =
        let e : 4 * B + 1 * F ≡ 4 * B + F = omega arith in
        ap elements (from-bin (4 * B + F) (omega arith)
        ∙ (cf.before (4 * B + F) F (omega arith) (omega arith) ∙ bf.before (4 * B + F) F (omega arith) (omega arith)))
        ∙ (ap (λ (i : ℕ). table_at i F s₁) (sym e) ∙ af.here)

    at-bf : table_at (4 * B + 2 * F) F s₆ ≡ table_of R ws x (relation_of R).fld.b
    at-bf = ap elements (from-bin (4 * B + 2 * F) (omega arith) ∙ cf.before (4 * B + 2 * F) F (omega arith) (omega arith)) ∙ bf.here

    at-cf : table_at (4 * B + 3 * F) F s₆ ≡ table_of R ws x (relation_of R).fld.c
    at-cf = ap elements (from-bin (4 * B + 3 * F) (omega arith)) ∙ cf.here

    -- read off both blocks
    abbrev W : ℕ
    W = block_words R.q (rows_bin R) (rows_fld R)

    bin_at : (i : ℕ) → i + B ≤ 4 * B → table_at i B (take (4 * B) (take W s₆)) ≡ table_at i B s₆
    bin_at i h = ap elements (take-of-drop (take W s₆) i B (4 * B) h ∙ take-of-drop s₆ i B W (omega arith))

    fld-at : (i : ℕ) → i + F ≤ 4 * F → table_at i F (drop (4 * B) (take W s₆)) ≡ table_at (4 * B + i) F s₆
    fld-at i h = ap (λ (u : List ℕ). elements (take F u)) (drop-drop i (4 * B) (take W s₆)) ∙ ap elements (take-of-drop s₆ (4 * B + i) F W (omega arith))

    tables-are : tables_of R.q (rows_bin R) (rows_fld R) s₆ ≡ tables_wanted R ws x
    tables-are = λ j. record {
      bin_a = (bin_at B (omega arith) ∙ at-ab) j;
      bin_b = (bin_at (2 * B) (omega arith) ∙ at-bb) j;
      bin_c = (bin_at (3 * B) (omega arith) ∙ cb.here) j;
      fld_a = (fld-at F (omega arith) ∙ at-af) j;
      fld_b = (fld-at (2 * F) (omega arith) ∙ at-bf) j;
      fld_c = (fld-at (3 * F) (omega arith) ∙ at-cf) j;
    }

    six : Products R ws x s₀ s₆
    six = record {
      long = cb.long ∙ (bb.long ∙ (ab.long ∙ (cf.long ∙ (bf.long ∙ af.long))));
      rest = cb.rest W (omega arith) ∙ (bb.rest W (omega arith)
          ∙ (ab.rest W (omega arith) ∙ (cf.rest W (omega arith) ∙ (bf.rest W (omega arith) ∙ af.rest W (omega arith)))));
      tables = tables-are;
    }

  pub six-left : ProductsLeft R ws x s₀ s₆
  six-left ok = six ok

-- ---- one after the other
-- the first n of the tables ks, from the words s to s'
abbrev pub Made : (R : Rules) (ws x ks : List ℕ) → ℕ → (s s' : List ℕ) → Type 0
Made R ws x ks zero s s' = s' ≡ s
Made R ws x ks (suc n) s s' = (u : List ℕ) × (Made R ws x ks n s u × ProductLeft (get_or ks n 0) R ws x u s')

pub all-made : (R : Rules) (ws x s s' : List ℕ) → Made R ws x (5 ∷ 6 ∷ 7 ∷ 1 ∷ 2 ∷ 3 ∷ []) 6 s s' → ProductsLeft R ws x s s'
all-made R ws x s s' m₆ =
    let m₅ = m₆.1.0 in
    let m₄ = m₅.1.0 in
    let m₃ = m₄.1.0 in
    let m₂ = m₃.1.0 in
    let m₁ = m₂.1.0 in
    subst (λ (u : List ℕ). ProductsLeft R ws x u s') m₁.1.0
    (six-left R ws x m₁.0 m₂.0 m₃.0 m₄.0 m₅.0 m₆.0 s' m₁.1.1 m₂.1.1 m₃.1.1 m₄.1.1 m₅.1.1 m₆.1.1)
