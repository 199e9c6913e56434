-- A matrix that its tests let through.
-- Assumes nothing.
use Rattle.std.specs.Prelude.{Result, Ok, Err}
use Rattle.std.proofs.Common.{if◌then◌else◌}
use mathlib.Core.Path.{◌≡◌, refl, ◌∙◌}
use mathlib.Core.Bool.{Bool, true, false, not, ◌&&◌}
use mathlib.Core.List.{List, [], ◌∷◌, ◌++◌}
use Prim.Native.Nat.{ℕ, ◌+◌, ◌-◌, ◌*◌, ◌≤◌, ◌<◌}
use native.Mathlib.Nat.{suc_inj}
use native.Mathlib.Omega.{arith}
use lib.Dec.{ltb}
use lib.ListN.{length, drop}
use borrow.Author.Tests.{not-false, eqb-true, ltb-true, lt-ltb}
use Rattle.magnetar_field.specs.declared.refusal.Refusal.{Refusal}
use Rattle.magnetar_field.specs.declared.refusal.Refusal.TheVariants.{EntryPlace}
use Rattle.magnetar_field.specs.Number.{number_of}
use Rattle.magnetar_layout.specs.Every.{every}
use Rattle.magnetar_matrix.specs.Matrix.{Entry, sum_over}
use Rattle.magnetar_matrix.specs.Lent.{Lent, entries_of}
use Rattle.magnetar_matrix.specs.Numbers.{Numbers, entries_by}
use Rattle.magnetar_matrix.specs.Packed.{login_words, public_words}
use Rattle.magnetar_matrix.specs.Table.{Equal}
use Rattle.magnetar_r1cs.specs.Inside.{inside}
use Rattle.magnetar_r1cs.specs.Entries.{logins_tests, matrix_tests}
use Rattle.magnetar_layout.specs.Tests.{or_refuse, first_refusal, all_below, counted, placed, lone_tests, batch_tests, size_tests, Sized}
use Rattle.magnetar_layout.proofs.EveryLaws.{both, every_drop}
use Rattle.magnetar_layout.proofs.FirstRefusal.{Clear, first-refusal-clear}
use Rattle.magnetar_layout.proofs.SizeLaws.{not-bad}
use Rattle.magnetar_layout.proofs.Passing.{cleared}
use Rattle.magnetar_matrix.proofs.LoginParts.{product-most, words-most}
use Rattle.magnetar_matrix.proofs.Blocks.{product-fits}

-- the entries are counted, and lie inside
pub record Placed (a : Lent) : Type 0 where
  pub equal : Equal a.row a.col a.lo a.hi
  pub inside : every (inside a.rows a.cols) (entries_of a.row a.col a.lo a.hi) ≡ true

and-true : {a b : Bool} → a ≡ true → b ≡ true → (a && b) ≡ true
and-true p q = rw (p, q)

shuffle : (a b c d : Bool) → ((a && b) && (c && d)) ≡ ((a && c) && (b && d))
shuffle true true c d = refl
shuffle true false true d = refl
shuffle true false false d = refl
shuffle false b c d = refl

inside-suc : (n m : ℕ) (r c l h : List ℕ) → length c ≡ length r → length l ≡ length r → length h ≡ length r
    → every (inside n m) (entries_of r c l h) ≡ (all_below n r && all_below m c)
unfolding entries_of every
inside-suc n m [] [] l h ec el eh = refl
inside-suc n m [] (y ∷ c) l h ec el eh = absurd (omega arith)
inside-suc n m (x ∷ r) [] l h ec el eh = absurd (omega arith)
inside-suc n m (x ∷ r) (y ∷ c) [] h ec el eh = absurd (omega arith)
inside-suc n m (x ∷ r) (y ∷ c) (z ∷ l) [] ec el eh = absurd (omega arith)
inside-suc n m (x ∷ r) (y ∷ c) (z ∷ l) (u ∷ h) ec el eh =
    rw (inside-suc n m r c l h (suc_inj ec) (suc_inj el) (suc_inj eh)) (shuffle (ltb x n) (ltb y m) (all_below n r) (all_below m c))

-- the entries lie inside where the rows and the columns do
pub inside-are : (n m : ℕ) (s : Numbers) → Equal s.row s.col s.lo s.hi → every (inside n m) (entries_by s) ≡ (all_below n s.row && all_below m s.col)
inside-are n m s q = inside-suc n m s.row s.col s.lo s.hi q.col q.lo q.hi

pub placed_of : (a : Lent) → Clear (counted a ++ placed a) → Placed a
placed_of a k =
    let q : Equal a.row a.col a.lo a.hi = record {
      col = eqb-true _ _ (not-false _ k.1.0);
      lo = eqb-true _ _ (not-false _ k.1.1.0);
      hi = eqb-true _ _ (not-false _ k.1.1.1.0);
    } in
    record {
      equal = q;
      inside = inside-suc a.rows a.cols a.row a.col a.lo a.hi q.col q.lo q.hi ∙ and-true (not-false _ k.1.1.1.1.0) (not-false _ k.1.1.1.1.1.0);
    }

pub record Lone (a : Lent) : Type 0 where
  pub cols_size : Sized 2 65536 a.cols
  pub rows_size : Sized 1 65536 a.rows
  pub entries : Placed a

pub lone : (a : Lent) → first_refusal 0 (lone_tests a) ≡ 0 → Lone a
lone a e =
    let k = (first-refusal-clear 0 (lone_tests a) refl e).1 in
    record { cols_size = not-bad k.0; rows_size = not-bad k.1.0; entries = placed_of a k.1.1 }

-- ---- entries that lie inside
pub col-inside : (n m : ℕ) (es : List Entry) (e : Entry) (i : ℕ) → every (inside n m) es ≡ true → drop i es ≡ e ∷ drop (i + 1) es → e.col < m
unfolding every
col-inside n m es e i t d =
    let k : every (inside n m) (e ∷ drop (i + 1) es) ≡ true = rw d at (every_drop (inside n m) i es t) in
    ltb-true e.col m (both (ltb e.row n) (ltb e.col m) (both (inside n m e) (every (inside n m) (drop (i + 1) es)) k).0).1

pub inside_wider : (n m k l : ℕ) (es : List Entry) → n ≤ k → m ≤ l → every (inside n m) es ≡ true → every (inside k l) es ≡ true
unfolding every
inside_wider n m k l [] h i t = refl
inside_wider n m k l (e ∷ es) h i t =
    let p = both (inside n m e) (every (inside n m) es) t in
    let q = both (ltb e.row n) (ltb e.col m) p.0 in
    and-true (and-true (lt-ltb e.row k (omega (arith, ltb-true e.row n q.0))) (lt-ltb e.col l (omega (arith, ltb-true e.col m q.1))))
    (inside_wider n m k l es h i p.1)

-- sums over entries that pass a test
pub sum-ext : (p : Entry → Bool) (f g : Entry → ℕ) (es : List Entry) → every p es ≡ true
    → ((e : Entry) → p e ≡ true → f e ≡ g e) → sum_over f es ≡ sum_over g es
unfolding every sum_over
sum-ext p f g [] t h = refl
sum-ext p f g (e ∷ es) t h =
    let k = both (p e) (every p es) t in
    rw (h e k.0, sum-ext p f g es k.1 h)

-- ---- rows for a batch
pub record Logins (p k q w n : ℕ) : Type 0 where
  pub least : 1 ≤ w
  pub half : w ≤ 32768
  pub logins : Sized 1 4096 q
  pub packed : p ≡ q * login_words w
  pub public : k ≡ q * public_words w
  pub rows : Sized 1 65536 n

pub logins-clear : (p k q w n : ℕ) → first_refusal 0 (logins_tests p k q w n) ≡ 0 → Logins p k q w n
logins-clear p k q w n e =
    let c = (first-refusal-clear 0 (logins_tests p k q w n) refl e).1 in
    let z = not-bad c.0 in
    record {
      least = omega (arith, z.low);
      half = omega (arith, z.high);
      logins = not-bad c.1.0;
      packed = eqb-true _ _ (not-false _ c.1.1.0);
      public = eqb-true _ _ (not-false _ c.1.1.1.0);
      rows = not-bad c.1.1.1.1.0;
    }

-- ---- a matrix for a batch
pub record Batched (a : Lent) (ws x : List ℕ) (q w : ℕ) : Type 0 where
  pub least : 1 ≤ w
  pub half : w ≤ 32768
  pub logins : Sized 1 4096 q
  pub packed : length ws ≡ q * login_words w
  pub rows_size : Sized 1 65536 a.rows
  pub entries : Placed a

pub batched : (a : Lent) (ws x : List ℕ) (q w : ℕ) → first_refusal 0 (batch_tests a ws x q w) ≡ 0 → Batched a ws x q w
batched a ws x q w e =
    let k = (first-refusal-clear 0 (batch_tests a ws x q w) refl e).1 in
    let z = not-bad k.0 in
    record {
      least = omega (arith, z.low);
      half = omega (arith, z.high);
      logins = not-bad k.1.0;
      packed = eqb-true _ _ (not-false _ k.1.1.0);
      rows_size = not-bad k.1.1.1.1.0;
      entries = placed_of a k.1.1.1.1.1.1.1;
    }

pub batched-public : (a : Lent) (ws x : List ℕ) (q w : ℕ) → first_refusal 0 (batch_tests a ws x q w) ≡ 0 → length x ≡ q * public_words w
batched-public a ws x q w e = eqb-true _ _ (not-false _ (first-refusal-clear 0 (batch_tests a ws x q w) refl e).1.1.1.1.0)

-- the same of the tests without that of the public words
pub masked : (a : Lent) (ws : List ℕ) (q w : ℕ) → first_refusal 0 (matrix_tests a ws q w) ≡ 0 → Batched a ws [] q w
masked a ws q w e =
    let k = (first-refusal-clear 0 (matrix_tests a ws q w) refl e).1 in
    let z = not-bad k.0 in
    record {
      least = omega (arith, z.low);
      half = omega (arith, z.high);
      logins = not-bad k.1.0;
      packed = eqb-true _ _ (not-false _ k.1.1.0);
      rows_size = not-bad k.1.1.1.0;
      entries = placed_of a k.1.1.1.1.1.1;
    }

-- ---- 7, by the entries
pub places-is : (a : Lent) (r : Result Unit Refusal) → first_refusal 0 (counted a) ≡ 0
    → r ≡ (if every (inside a.rows a.cols) (entries_of a.row a.col a.lo a.hi) then Ok tt else Err EntryPlace) → number_of r ≡ first_refusal 0 (placed a)
unfolding or_refuse
places-is a r z e = go (all_below a.rows a.row) (all_below a.cols a.col) (rw (inside-suc a.rows a.cols a.row a.col a.lo a.hi q.col q.lo q.hi) at e)
  where
    k : Clear (counted a)
    k = (first-refusal-clear 0 (counted a) refl z).1

    q : Equal a.row a.col a.lo a.hi
    q = record { col = eqb-true _ _ (not-false _ k.1.0); lo = eqb-true _ _ (not-false _ k.1.1.0); hi = eqb-true _ _ (not-false _ k.1.1.1.0) }

    go : (b d : Bool) → r ≡ (if b && d then Ok tt else Err EntryPlace) → number_of r ≡ first_refusal 0 ((7, not b) ∷ (7, not d) ∷ [])
    go true true h = rw h
    go true false h = rw h
    go false d h = rw h

-- ---- products of sizes
pub words_fit : (q w : ℕ) → q ≤ 4096 → w ≤ 32768 → q * login_words w ≤ 2097152
words_fit q w h l = product-most q (login_words w) h (words-most w l)

pub public_fit : (q w : ℕ) → q ≤ 4096 → w ≤ 32768 → q * (2 * w - 2) ≤ 536870912
public_fit q w h l = product-fits q (2 * w - 2) h (omega arith)

pub rows_fit : (q n : ℕ) → q ≤ 4096 → n ≤ 65536 → q * n ≤ 536870912
rows_fit q n h l = product-fits q n h (omega arith)

-- ---- sizes that pass
pub record Small (q w : ℕ) : Type 0 where
  pub least : 1 ≤ w
  pub half : w ≤ 32768
  pub logins : q ≤ 4096

pub small_of : (q w : ℕ) → 0 ≡ first_refusal 0 (size_tests (2 * w) q) → Small q w
small_of q w e =
    let k = cleared (size_tests (2 * w) q) refl e in
    let h = not-bad k.0 in
    record { least = omega (arith, h.low); half = omega (arith, h.high); logins = (not-bad k.1.0).high }
