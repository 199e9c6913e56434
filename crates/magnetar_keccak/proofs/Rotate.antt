-- std's rotation of a word is that of a lane.
-- Assumes nothing.
use mathlib.Core.Path.{◌≡◌, refl, sym, ◌∙◌}
use Prim.Native.Nat.{ℕ, zero, suc, ◌+◌, ◌*◌, ◌-◌, ◌/◌, ◌%◌, ◌^◌, ◌<◌}
use native.Mathlib.Nat.{mod-eq_of_lt, mod-lt, mod-mod, mul-mod_left, add-zero, mul-one, div-one, div-eq_of_lt, zero-lt-suc}
use native.Mathlib.Omega.{arith}
use lib.Bits.{bit_or, or_shifted, or_self}
use lib.Pow.{mod-pow-add, shl-shr, shr_lt}
use mir.Syntax.{w64}
use Rattle.std.specs.Int.{rotate_left}
use Rattle.magnetar_keccak.specs.State.{rotate}

-- an offset counts modulo 64
pub rotate-mod : (w n : ℕ) → rotate w (n % 64) ≡ rotate w n
unfolding rotate
rotate-mod w n = rw mod-mod

-- a shift up loses the bits above
shl-mod : (w j k : ℕ) → w * 2 ^ k % 2 ^ (j + k) ≡ w % 2 ^ j * 2 ^ k
shl-mod w j k = mod-pow-add (w * 2 ^ k) j k ∙ rw (shl-shr, mul-mod_left, add-zero)

-- a rotation by two shifts: their or is their sum
shifts-added : (w n : ℕ) → w < 2 ^ 64 → n < 64 → bit_or (w * 2 ^ n % 2 ^ 64) (w / 2 ^ (64 - n)) ≡ w * 2 ^ n % 2 ^ 64 + w / 2 ^ (64 - n)
shifts-added w n hw h =
    let s : (64 - n) + n ≡ 64 = omega arith in
    let t : n + (64 - n) ≡ 64 = omega arith in
    let e : w * 2 ^ n % 2 ^ 64 ≡ w % 2 ^ (64 - n) * 2 ^ n = rw s at (shl-mod w (64 - n) n) in
    let l : w < 2 ^ (n + (64 - n)) = rw t hw in
    rw e (or_shifted (w % 2 ^ (64 - n)) n (w / 2 ^ (64 - n)) (shr_lt n (64 - n) l))

pub rotate-shifts : (w n : ℕ) → w < 2 ^ 64 → n < 64 → bit_or (w * 2 ^ n % 2 ^ 64) (w / 2 ^ (64 - n)) ≡ rotate w n
unfolding rotate
rotate-shifts w n hw h = rw (mod-eq_of_lt h) (shifts-added w n hw h)

-- a shift down by 64 - n; where n is 0, std shifts by 0 and takes the or of the word and itself
below : (w k n : ℕ) → w < 2 ^ 64 → n < 64 → n ≡ k → bit_or (w * 2 ^ n % 2 ^ 64) (w / 2 ^ ((64 - n) % 64)) ≡ w * 2 ^ n % 2 ^ 64 + w / 2 ^ (64 - n)
below w zero n hw h e = rw (e, mul-one, mod-eq_of_lt hw, div-one, div-eq_of_lt hw, or_self) (sym (add-zero w))
below w (suc k) n hw h e =
    let m : (64 - n) % 64 ≡ 64 - n = mod-eq_of_lt (omega arith) in
    rw m (shifts-added w n hw h)

pub rotated : (w n : ℕ) → w < 2 ^ 64 → rotate_left w64 w n ≡ rotate w n
unfolding rotate
rotated w n h = below w (n % 64) (n % 64) h (mod-lt n (zero-lt-suc 63)) refl
