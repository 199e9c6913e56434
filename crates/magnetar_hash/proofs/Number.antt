-- The number that bytes make, of 8 bytes and of a list in two parts.
-- Assumes nothing.
use Rattle.std.proofs.Common.{◌≡◌, ℕ, suc, ◌+◌, ◌*◌, ◌^◌, ◌<◌, ◌≤◌, List, [], ◌∷◌, ◌++◌, length, get_or, take, drop, sym, ap, ◌∙◌, add_assoc, mul_assoc, one-mul, zero-add, mul-add, add-one, arith, drop-cons, pow-add}
use Rattle.std.specs.Int.{from_le_bytes}
use mir.Syntax.{w64}
use Rattle.magnetar_hash.specs.Bytes.{number}

next : (n : ℕ) (l : List ℕ) (at : ℕ) → at < length l → take (suc n) (drop at l) ≡ get_or l at 0 ∷ take n (drop (at + 1) l)
next n l at h = rw (add-one, drop-cons l at 0 h)

shift-number : (b n x y : ℕ) → b + 256 * (x + 2 ^ (8 * n) * y) ≡ b + 256 * x + 2 ^ (8 * suc n) * y
shift-number b n x y =
    let e : 8 * suc n ≡ 8 + 8 * n = omega arith in
    rw (e, pow-add 2 8 (8 * n), mul-add, ← mul_assoc, add_assoc)

pub number_append : (p q : List ℕ) → number (p ++ q) ≡ number p + 2 ^ (8 * length p) * number q
unfolding number
number_append [] q = sym (zero-add (1 * number q) ∙ one-mul (number q))
number_append (b ∷ p) q = ap (λ (x : ℕ). b + 256 * x) (number_append p q) ∙ shift-number b (length p) (number p) (number q)

-- std's number of 8 bytes
pub word-number
    : (l : List ℕ) (at : ℕ) → at + 8 ≤ length l → from_le_bytes w64 (take 8 (drop at l)) ≡ number (take 8 (drop at l))
unfolding number
word-number l at h =
    let a : ℕ = at + 1 in
    let b : ℕ = a + 1 in
    let c : ℕ = b + 1 in
    let d : ℕ = c + 1 in
    let e : ℕ = d + 1 in
    let f : ℕ = e + 1 in
    rw (
      next 7 l at (omega arith),
      next 6 l a (omega arith),
      next 5 l b (omega arith),
      next 4 l c (omega arith),
      next 3 l d (omega arith),
      next 2 l e (omega arith),
      next 1 l f (omega arith),
      next 0 l (f + 1) (omega arith),
    )
    (omega arith)
