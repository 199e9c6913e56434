-- The verdict names a stray bit exactly where it is the first one.
-- Assumes nothing.
use mathlib.Core.Path.{◌≡◌, refl}
use mathlib.Core.Bool.{Bool, true, false, cond}
use Prim.Native.Nat.{ℕ}
use native.Mathlib.Omega.{arith}
use lib.Dec.{eqb}
use borrow.Author.Tests.{eqb-false, eq-eqb, ne_eqb}
use Rattle.magnetar_matrix.specs.Batch.{Batch, PublicColumns, Relation}
use Rattle.magnetar_matrix.specs.RowCheck.{in_place, stray_column, stray_login, failing_login, systems_verdict, row_verdict, FirstStray}
use Rattle.magnetar_matrix.specs.RowCheck.Verdict.{good, stray, bin, fld}
use Rattle.magnetar_matrix.proofs.Verdicts.{in_place_lem, stray-not, w, column, login, login-le, clear-column, first-stray}
use Rattle.magnetar_matrix.proofs.FirstRow.{first-is}

module _ (r : Relation) (b : Batch) (x : PublicColumns) (u y : ℕ) where
  -- where the verdict is on the rows, it names no stray bit
  rows_other : systems_verdict r b x ≡ stray u y → ⊥
  unfolding systems_verdict
  rows_other e =
      go (eqb (failing_login r.bin r.q b x) r.q) (eqb (failing_login r.fld r.q b x) r.q) _ _ _ _ e
    where
      go : (c d : Bool) (i j k l : ℕ) → cond c (cond d good (fld i j)) (bin k l) ≡ stray u y → ⊥
      go true true i j k l e = let z : ◌≡◌ {A = ℕ} 0 1 = cc in omega arith
      go true false i j k l e = let z : ◌≡◌ {A = ℕ} 0 1 = cc in omega arith
      go false d i j k l e = let z : ◌≡◌ {A = ℕ} 0 1 = cc in omega arith

  pub stray-means : row_verdict r b x ≡ stray u y → FirstStray r b u y
  unfolding row_verdict
  stray-means e = go (eqb (login r b) r.q) refl e
    where
      go : (c : Bool) → eqb (login r b) r.q ≡ c → cond c (systems_verdict r b x) (stray (login r b) (column r b (login r b))) ≡ stray u y → FirstStray r b u y
      go true c e = absurd (rows_other e)
      go false c e =
          let n : login r b ≡ r.q → ⊥ = eqb-false (login r b) r.q c in
          let f = first-stray r b (omega (arith, n, login-le r b)) in
          let p : login r b ≡ u = cc in
          let q : column r b (login r b) ≡ y = cc in
          rw (q, p) at f

  pub means-stray : FirstStray r b u y → row_verdict r b x ≡ stray u y
  unfolding row_verdict stray_login stray_column
  means-stray f =
      let c : y ≡ column r b u =
      first-is (in_place r.lengths b u) (w r b) y f.column (λ k l. in_place_lem r.lengths b u k (λ o. f.lower k l o))
      (stray-not r.lengths b u y f.set f.out) in
      let n : column r b u ≡ w r b → ⊥ = λ e. omega (arith, f.column, c, e) in
      let l : u ≡ login r b =
      first-is (λ u. eqb (column r b u) (w r b)) r.q u f.login
      (λ v h. eq-eqb _ _ (clear-column r b v (λ k l o. f.earlier v k h l o))) (ne_eqb _ _ n) in
      rw (← l, ne_eqb u r.q (λ e. omega (arith, f.login, e)), ← c)
