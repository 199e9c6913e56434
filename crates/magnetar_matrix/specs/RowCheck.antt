-- The plain row check: the first stray bit, the lowest login and then the lowest column; else the first row that does not hold, bin before
-- fld, then the lowest login, then the lowest row. A stray bit is one that is set outside the segments.
-- Source: document 01, "Matrices and layout" (added: a plain row check) and "The run" (outside); document 02, U3.
-- Assumes nothing.
use Rattle.std.specs.Prelude.{◌≡◌, Bool, true, cond, not, ◌||◌, List, ℕ, zero, suc, ◌+◌, ◌*◌, ◌/◌, ◌<◌, eqb, get_or}
use Rattle.magnetar_field.specs.Gf128.{◌⊗◌}
use Rattle.magnetar_layout.specs.Layout.{outside}
use Rattle.magnetar_matrix.specs.Matrix.{System}
use Rattle.magnetar_matrix.specs.Batch.{Batch, PublicColumns, Relation, bit_of, assignment, row_holds}

-- the first number below n of which the test is false, or n
unfoldable pub first_not : (ℕ → Bool) → ℕ → ℕ
first_not f zero = 0
first_not f (suc n) = cond (f 0) (suc (first_not (λ i. f (suc i)) n)) 0

-- ---- stray bits, of a batch with w columns and segments of the lengths ns
-- the bit of login u at column y is not stray: it is clear, or the column lies in a segment
unfoldable pub in_place : List ℕ → Batch → ℕ → ℕ → Bool
in_place ns b u y = eqb (bit_of b u y) 0 || not (outside ns y)

-- the first column of login u with a stray bit, or w
unfoldable pub stray_column : (w : ℕ) → List ℕ → Batch → ℕ → ℕ
stray_column w ns b u = first_not (in_place ns b u) w

-- the first of q logins with a stray bit, or q
unfoldable pub stray_login : (q w : ℕ) → List ℕ → Batch → ℕ
stray_login q w ns b = first_not (λ u. eqb (stray_column w ns b u) w) q

-- ---- rows
-- the first row that does not hold for z, or the number of rows
unfoldable pub failing_row : System → List ℕ → ℕ
failing_row s z = first_not (row_holds s z) s.a.rows

-- the first login with a row that does not hold, or q
unfoldable pub failing_login : System → ℕ → Batch → PublicColumns → ℕ
failing_login s q b x = first_not (λ u. eqb (failing_row s (assignment b x u)) s.a.rows) q

-- ---- the verdict
-- good; the login and column of the first stray bit; or the system, login and row of the first failing row
pub data Verdict : Type 0 where
  good : Verdict
  stray bin fld : ℕ → ℕ → Verdict

-- the verdict on the rows of both systems
unfoldable pub systems_verdict : Relation → Batch → PublicColumns → Verdict
systems_verdict r b x =
    cond (eqb (failing_login r.bin r.q b x) r.q)
    (cond (eqb (failing_login r.fld r.q b x) r.q) good
    (fld (failing_login r.fld r.q b x) (failing_row r.fld (assignment b x (failing_login r.fld r.q b x)))))
    (bin (failing_login r.bin r.q b x) (failing_row r.bin (assignment b x (failing_login r.bin r.q b x))))

-- the verdict on a batch and its public columns
unfoldable pub row_verdict : Relation → Batch → PublicColumns → Verdict
row_verdict r b x =
    cond (eqb (stray_login r.q (r.m / 2) r.lengths b) r.q) (systems_verdict r b x)
    (stray (stray_login r.q (r.m / 2) r.lengths b)
    (stray_column (r.m / 2) r.lengths b (stray_login r.q (r.m / 2) r.lengths b)))

-- what `stray u y` means: login u has a bit set at column y, which is outside; no lower column of it has, and no column of an earlier login
pub record FirstStray (r : Relation) (b : Batch) (u y : ℕ) : Type 0 where
  pub login : u < r.q
  pub column : y < r.m / 2
  pub set : bit_of b u y ≡ 0 → ⊥
  pub out : outside r.lengths y ≡ true
  pub lower : (k : ℕ) → k < y → outside r.lengths k ≡ true → bit_of b u k ≡ 0
  pub earlier : (v k : ℕ) → v < u → k < r.m / 2 → outside r.lengths k ≡ true → bit_of b v k ≡ 0

-- the products of three matrices with z, one behind the other, n rows each: row i holds
unfoldable pub holds_at : List ℕ → ℕ → ℕ → Bool
holds_at t n i = eqb (get_or t i 0 ⊗ get_or t (n + i) 0) (get_or t (2 * n + i) 0)
