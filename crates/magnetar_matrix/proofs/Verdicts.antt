-- The plain row check's verdict: good exactly for a good batch, stray exactly for the first stray bit, and otherwise the first failing row.
-- Assumes nothing.
use mathlib.Core.Path.{◌≡◌, refl, sym, ap}
use mathlib.Core.Bool.{Bool, true, false, cond, not, ◌||◌, false≢true}
use mathlib.Core.List.{List}
use Prim.Native.Nat.{ℕ, zero, suc, ◌/◌, ◌≤◌, ◌<◌, suc-le-suc}
use native.Mathlib.Nat.{le_of_suc-le-suc, zero-lt-suc}
use native.Mathlib.Omega.{arith}
use lib.Dec.{eqb}
use borrow.Author.Tests.{eqb-true, eqb-false, eq-eqb, ne_eqb}
use Rattle.magnetar_layout.specs.Layout.{outside}
use Rattle.magnetar_matrix.specs.Matrix.{System}
use Rattle.magnetar_matrix.specs.Batch.{Batch, PublicColumns, Relation, bit_of, assignment, row_holds, Satisfied, NoBitOutside, Good}
use Rattle.magnetar_matrix.specs.RowCheck.{first_not, in_place, stray_column, stray_login, failing_row, failing_login, systems_verdict, row_verdict, FirstStray}
use Rattle.magnetar_matrix.specs.RowCheck.Verdict.{good, stray, bin, fld}

-- ---- the first number of which a test is false
pub first-le : (f : ℕ → Bool) (n : ℕ) → first_not f n ≤ n
unfolding first_not
first-le f zero = omega arith
first-le f (suc n) = go (f 0) (first-le (λ i. f (suc i)) n)
  where
    go : (b : Bool) → first_not (λ i. f (suc i)) n ≤ n → cond b (suc (first_not (λ i. f (suc i)) n)) 0 ≤ suc n
    go true h = suc-le-suc h
    go false h = omega arith

-- it holds of all before
pub first-before : (f : ℕ → Bool) (n i : ℕ) → i < first_not f n → f i ≡ true
unfolding first_not
first-before f zero i h = absurd (omega arith)
first-before f (suc n) i h = go (f 0) refl i h (λ j l. first-before (λ k. f (suc k)) n j l)
  where
    go : (b : Bool) → f 0 ≡ b → (i : ℕ) → i < cond b (suc (first_not (λ k. f (suc k)) n)) 0
        → ((j : ℕ) → j < first_not (λ k. f (suc k)) n → f (suc j) ≡ true) → f i ≡ true
    go true e zero h r = e
    go true e (suc i) h r = r i (le_of_suc-le-suc h)
    go false e i h r = absurd (omega arith)

-- and not of itself
pub first-not : (f : ℕ → Bool) (n : ℕ) → first_not f n < n → f (first_not f n) ≡ false
unfolding first_not
first-not f zero h = absurd (omega arith)
first-not f (suc n) h = go (f 0) refl h (λ l. first-not (λ k. f (suc k)) n l)
  where
    go : (b : Bool) → f 0 ≡ b → cond b (suc (first_not (λ k. f (suc k)) n)) 0 < suc n
        → (first_not (λ k. f (suc k)) n < n → f (suc (first_not (λ k. f (suc k)) n)) ≡ false)
        → f (cond b (suc (first_not (λ k. f (suc k)) n)) 0) ≡ false
    go true e h r = r (le_of_suc-le-suc h)
    go false e h r = e

-- where it holds of all, there is none
pub first-none : (f : ℕ → Bool) (n : ℕ) → ((i : ℕ) → i < n → f i ≡ true) → first_not f n ≡ n
unfolding first_not
first-none f zero h = refl
first-none f (suc n) h = rw (h 0 (zero-lt-suc n)) (ap suc (first-none (λ i. f (suc i)) n (λ i l. h (suc i) (suc-le-suc l))))

-- ---- a system
module _ (s : System) (q : ℕ) (b : Batch) (x : PublicColumns) where
  pub satisfied : failing_login s q b x ≡ q → Satisfied s q b x
  unfolding failing_login failing_row Satisfied row_holds
  satisfied e u i hu hi =
      let r = first-before (λ u. eqb (failing_row s (assignment b x u)) s.a.rows) q u (rw e hu) in
      let n : failing_row s (assignment b x u) ≡ s.a.rows = eqb-true _ _ r in
      eqb-true _ _ (first-before (row_holds s (assignment b x u)) s.a.rows i (rw n hi))

  pub no-failing : Satisfied s q b x → failing_login s q b x ≡ q
  unfolding failing_login failing_row Satisfied row_holds
  no-failing h =
      first-none (λ u. eqb (failing_row s (assignment b x u)) s.a.rows) q
      (λ u hu. eq-eqb _ _ (first-none (row_holds s (assignment b x u)) s.a.rows (λ i hi. eq-eqb _ _ (h u i hu hi))))

-- ---- stray bits
-- a bit that is in place is clear, or its column is not outside
placed : (ns : List ℕ) (b : Batch) (u y : ℕ) → in_place ns b u y ≡ true → outside ns y ≡ true → bit_of b u y ≡ 0
unfolding in_place
placed ns b u y e o = go (eqb (bit_of b u y) 0) refl (rw o at e)
  where
    go : (c : Bool) → eqb (bit_of b u y) 0 ≡ c → (c || false) ≡ true → bit_of b u y ≡ 0
    go true c e = eqb-true _ _ c
    go false c e = absurd (false≢true e)

pub in_place_lem : (ns : List ℕ) (b : Batch) (u y : ℕ) → (outside ns y ≡ true → bit_of b u y ≡ 0) → in_place ns b u y ≡ true
unfolding in_place
in_place_lem ns b u y h = go (outside ns y) refl
  where
    or-true : (c : Bool) → (c || true) ≡ true
    or-true true = refl
    or-true false = refl

    go : (o : Bool) → outside ns y ≡ o → (eqb (bit_of b u y) 0 || not o) ≡ true
    go true o = rw (eq-eqb _ _ (h o))
    go false o = or-true (eqb (bit_of b u y) 0)

-- one that is not is set, and outside
stray-bit : (ns : List ℕ) (b : Batch) (u y : ℕ) → in_place ns b u y ≡ false → (bit_of b u y ≡ 0 → ⊥) × (outside ns y ≡ true)
unfolding in_place
stray-bit ns b u y e = go (eqb (bit_of b u y) 0) refl (outside ns y) refl e
  where
    go : (c : Bool) → eqb (bit_of b u y) 0 ≡ c → (o : Bool) → outside ns y ≡ o → (c || not o) ≡ false
        → (bit_of b u y ≡ 0 → ⊥) × (outside ns y ≡ true)
    go true c o p e = absurd (false≢true (sym e))
    go false c true p e = (eqb-false _ _ c, p)
    go false c false p e = absurd (false≢true (sym e))

pub stray-not : (ns : List ℕ) (b : Batch) (u y : ℕ) → (bit_of b u y ≡ 0 → ⊥) → outside ns y ≡ true → in_place ns b u y ≡ false
unfolding in_place
stray-not ns b u y h o = rw (ne_eqb _ _ h, o)

module _ (r : Relation) (b : Batch) where
  abbrev pub w : ℕ
  w = r.m / 2

  abbrev pub column : ℕ → ℕ
  column u = stray_column w r.lengths b u

  abbrev pub login : ℕ
  login = stray_login r.q w r.lengths b

  -- no column of login u
  column-clear : (u : ℕ) → column u ≡ w → (y : ℕ) → y < w → outside r.lengths y ≡ true → bit_of b u y ≡ 0
  unfolding stray_column
  column-clear u e y h o = placed r.lengths b u y (first-before (in_place r.lengths b u) w y (rw e h)) o

  pub clear-column : (u : ℕ) → ((y : ℕ) → y < w → outside r.lengths y ≡ true → bit_of b u y ≡ 0) → column u ≡ w
  unfolding stray_column
  clear-column u h = first-none (in_place r.lengths b u) w (λ y l. in_place_lem r.lengths b u y (h y l))

  -- no column of a login before the first
  before-clear : (u y : ℕ) → u < login → y < w → outside r.lengths y ≡ true → bit_of b u y ≡ 0
  unfolding stray_login
  before-clear u y h l o = column-clear u (eqb-true _ _ (first-before (λ u. eqb (column u) w) r.q u h)) y l o

  pub none-outside : login ≡ r.q → NoBitOutside r b
  none-outside e u y h l o = before-clear u y (rw e h) l o

  pub outside-none : NoBitOutside r b → login ≡ r.q
  unfolding stray_login
  outside-none h =
      first-none (λ u. eqb (column u) w) r.q (λ u l. eq-eqb _ _ (clear-column u (λ y k o. h u y l k o)))

  pub login-le : login ≤ r.q
  unfolding stray_login
  login-le = first-le (λ u. eqb (column u) w) r.q

  pub first-stray : login < r.q → FirstStray r b login (column login)
  unfolding stray_login stray_column
  first-stray h =
      let n : column login ≡ w → ⊥ = eqb-false _ _ (first-not (λ u. eqb (column u) w) r.q h) in
      let l : column login < w = omega (arith, n, first-le (in_place r.lengths b login) w) in
      let s = stray-bit r.lengths b login (column login) (first-not (in_place r.lengths b login) w l) in
      record {
        login = h;
        column = l;
        set = s.0;
        out = s.1;
        lower = λ k l o. placed r.lengths b login k (first-before (in_place r.lengths b login) w k l) o;
        earlier = λ v k h l o. before-clear v k h l o;
      }

-- ---- the verdict
systems-good : (r : Relation) (b : Batch) (x : PublicColumns) → Good r b x → systems_verdict r b x ≡ good
unfolding systems_verdict
systems-good r b x g =
    rw (eq-eqb (failing_login r.bin r.q b x) r.q (no-failing r.bin r.q b x g.bin), eq-eqb (failing_login r.fld r.q b x) r.q (no-failing r.fld r.q b x g.fld))

pub good-verdict : (r : Relation) (b : Batch) (x : PublicColumns) → Good r b x → row_verdict r b x ≡ good
unfolding row_verdict
good-verdict r b x g = rw (eq-eqb (login r b) r.q (outside-none r b g.clear)) (systems-good r b x g)

good-systems : (r : Relation) (b : Batch) (x : PublicColumns) → NoBitOutside r b → systems_verdict r b x ≡ good → Good r b x
unfolding systems_verdict
good-systems r b x n e =
    go (eqb (failing_login r.bin r.q b x) r.q) refl (eqb (failing_login r.fld r.q b x) r.q) refl e
  where
    go : (c : Bool) → eqb (failing_login r.bin r.q b x) r.q ≡ c → (d : Bool) → eqb (failing_login r.fld r.q b x) r.q ≡ d
        → cond c (cond d good (fld (failing_login r.fld r.q b x) (failing_row r.fld (assignment b x (failing_login r.fld r.q b x)))))
        (bin (failing_login r.bin r.q b x) (failing_row r.bin (assignment b x (failing_login r.bin r.q b x)))) ≡ good
        → Good r b x
    go true p true t e = record {
      clear = n;
      bin = satisfied r.bin r.q b x (eqb-true _ _ p);
      fld = satisfied r.fld r.q b x (eqb-true _ _ t);
    }
    go true p false t e = absurd (let z : ◌≡◌ {A = ℕ} 0 1 = cc in omega arith)
    go false p d t e = absurd (let z : ◌≡◌ {A = ℕ} 0 1 = cc in omega arith)

pub verdict-good : (r : Relation) (b : Batch) (x : PublicColumns) → row_verdict r b x ≡ good → Good r b x
unfolding row_verdict
verdict-good r b x e = go (eqb (login r b) r.q) refl e
  where
    go : (c : Bool) → eqb (login r b) r.q ≡ c → cond c (systems_verdict r b x) (stray (login r b) (column r b (login r b))) ≡ good → Good r b x
    go true c e = good-systems r b x (none-outside r b (eqb-true _ _ c)) e
    go false c e = absurd (let z : ◌≡◌ {A = ℕ} 0 1 = cc in omega arith)
