-- The digits of a number, lowest first, as a list.
-- Assumes nothing.
use Rattle.std.proofs.Common.{◌≡◌, ℕ, zero, suc, ◌/◌, ◌%◌, ◌^◌, ◌<◌, List, [], ◌∷◌, length, refl, ap, lt_of_lt_of_le, mod-lt, lit≤}
use Rattle.magnetar_field.proofs.Xor.{two_pos}
use Rattle.magnetar_field.proofs.Polynomial.{AllBelow}

unfoldable pub bits : ℕ → ℕ → List ℕ
bits zero a = []
bits (suc n) a = a % 2 ∷ bits n (a / 2)

pub length-bits : (n a : ℕ) → length (bits n a) ≡ n
unfolding bits
length-bits zero a = refl
length-bits (suc n) a = ap suc (length-bits n (a / 2))

pub digit_lt : (x : ℕ) → x < 2 → x < 2 ^ 128
digit_lt x h = lt_of_lt_of_le h (lit≤ tt)

pub bits_below : (n a : ℕ) → AllBelow (2 ^ 128) (bits n a)
unfolding bits
bits_below zero a = tt
bits_below (suc n) a = (digit_lt (a % 2) (mod-lt a two_pos), bits_below n (a / 2))
