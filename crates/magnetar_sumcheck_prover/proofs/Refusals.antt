-- How large a table is, and where its variables are.
-- Assumes nothing.
use mathlib.Core.Path.{◌≡◌, refl}
use mathlib.Core.Bool.{Bool, true, false, ◌&&◌, and-eq-true_iff}
use Prim.Native.Nat.{ℕ, zero, suc, ◌-◌, ◌*◌, ◌/◌, ◌%◌, ◌^◌, ◌≤◌, ◌<◌}
use native.Mathlib.Nat.{two-pow-succ}
use native.Mathlib.Omega.{arith}
use lib.Dec.{eqb, ltb}
use lib.Pow.{pow_mono}
use borrow.Author.Tests.{eqb-true, ltb-true, ltb-false}
use Rattle.magnetar_field.specs.Sizes.{log₂, power_of_two}
use Rattle.magnetar_sumcheck_prover.specs.Entries.{is_table}

-- a table of w words has 2^n elements, and its variables are below n
pub record Table (v w n : ℕ) : Type 0 where
  pub size : w ≡ 2 * 2 ^ suc n
  pub var : v ≤ n
  pub small : n < 62

pub table_of : (v w : ℕ) → w < 2 ^ 64 → is_table v w ≡ true → Table v w (log₂ (w / 2) - 1)
unfolding is_table
table_of v w h e = go (log₂ (w / 2)) (eqb-true (w % 2) 0 p.0) (eqb-true (w / 2) (2 ^ log₂ (w / 2)) q.0)
    (ltb-true v (log₂ (w / 2)) q.1)
  where
    p : (eqb (w % 2) 0 ≡ true) × ((power_of_two (w / 2) && ltb v (log₂ (w / 2))) ≡ true)
    p = (and-eq-true_iff (eqb (w % 2) 0) (power_of_two (w / 2) && ltb v (log₂ (w / 2)))).0 e

    q : (power_of_two (w / 2) ≡ true) × (ltb v (log₂ (w / 2)) ≡ true)
    q = (and-eq-true_iff (power_of_two (w / 2)) (ltb v (log₂ (w / 2)))).0 p.1

    go : (l : ℕ) → w % 2 ≡ 0 → w / 2 ≡ 2 ^ l → v < l → Table v w (l - 1)
    go zero even pow less = absurd (omega arith)
    go (suc l) even pow less = rw one (record { size = omega arith; var = omega arith; small = omega (arith, bound (ltb 62 (suc l)) refl) })
      where
        one : suc l - 1 ≡ l
        one = omega arith

        bound : (b : Bool) → ltb 62 (suc l) ≡ b → suc l ≤ 62
        bound true e = absurd (omega (arith, pow_mono {i = 63} {j = suc l} (ltb-true 62 (suc l) e)))
        bound false e = ltb-false 62 (suc l) e

pub table-small : (v w : ℕ) → w < 2 ^ 64 → is_table v w ≡ true → (v < 62) × (4 * (w / 4) ≡ w)
table-small v w h e = small (table_of v w h e)
  where
    small : Table v w (log₂ (w / 2) - 1) → (v < 62) × (4 * (w / 4) ≡ w)
    small f = (omega (arith, f.var, f.small), omega (arith, f.size, two-pow-succ (log₂ (w / 2) - 1)))
