-- What a size that passes its test is.
-- Assumes nothing.
use mathlib.Core.Path.{◌≡◌}
use mathlib.Core.Bool.{true, false, not, ◌&&◌}
use Prim.Native.Nat.{ℕ, ◌^◌, ◌≤◌, ◌<◌}
use native.Mathlib.Nat.{le_trans, lt_of_not-le}
use native.Mathlib.Omega.{arith}
use lib.Pow.{pow_mono}
use lib.Dec.{leb}
use borrow.Author.Tests.{leb-true, eqb-true, not-false}
use Rattle.magnetar_field.specs.Sizes.{log₂, power_of_two}
use Rattle.magnetar_layout.proofs.EveryLaws.{both}
use Rattle.magnetar_layout.specs.Tests.{is_size, Sized}

pub sized : (least most n : ℕ) → is_size least most n ≡ true → Sized least most n
unfolding is_size
sized least most n e =
    let p = both (leb least n) (leb n most && power_of_two n) e in
    let q = both (leb n most) (power_of_two n) p.1 in
    record { low = leb-true least n p.0; high = leb-true n most q.0; power = eqb-true n (2 ^ log₂ n) q.1 }

-- a test that is not bad
pub not-bad : {least most n : ℕ} → not (is_size least most n) ≡ false → Sized least most n
not-bad {least} {most} {n} e = sized least most n (not-false (is_size least most n) e)

-- within wider bounds
pub sized-wider : {least most n : ℕ} (m : ℕ) → most ≤ m → Sized least most n → Sized least m n
sized-wider m h z = record { low = z.low; high = le_trans z.high h; power = z.power }

-- the logarithm of a power of two up to 65,536
pub log-most : (n : ℕ) → n ≤ 65536 → n ≡ 2 ^ log₂ n → log₂ n ≤ 16
log-most n h e = go (log₂ n) e
  where
    go : (k : ℕ) → n ≡ 2 ^ k → k ≤ 16
    go k e = let b : k < 17 = lt_of_not-le (λ b. omega (arith, pow_mono {i = 17} {j = k} b)) in omega arith
