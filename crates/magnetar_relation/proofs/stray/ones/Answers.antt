use mathlib.Core.Path.{◌≡◌}
use Prim.Native.Nat.{ℕ, suc, ◌*◌, ◌%◌, ◌^◌, ◌≤◌, ◌<◌}
use native.Mathlib.Nat.{mod-eq_of_lt, one-mul, pow-suc}
use native.Mathlib.Omega.{arith}
use lib.Pow.{pow_mono, pow_pos}
use Rattle.magnetar_relation.proofs.stray.ones.Goals as goal

-- 1 moved up by less than 64 bits
moved : (t : ℕ) → t < 64 → 1 * 2 ^ t % 18446744073709551616 ≡ 2 ^ t
moved t h =
    let l : 2 ^ suc t ≤ 2 ^ 64 = pow_mono {i = suc t} {j = 64} h in
    rw (one-mul (2 ^ t)) (mod-eq_of_lt (omega (arith, l, pow-suc 2 t, pow_pos t)))

pub overflow_sub-result : goal.overflow_sub-result
overflow_sub-result c = omega (arith, moved _ c.if-t-lt64.true, pow_pos c.args.t)

pub returns-then-t-lt64 : goal.returns-then-t-lt64
returns-then-t-lt64 c = rw (moved c.args.t c.if-t-lt64.true)

pub returns-else-t-lt64 : goal.returns-else-t-lt64
returns-else-t-lt64 c = let e : c.args.t ≡ 64 = omega (arith, c.requires, c.if-t-lt64.false) in rw e
