-- The bits of a sum and of a common part of two words, and of a run of ones.
-- Assumes nothing.
use mathlib.Core.Path.{◌≡◌, refl, ap, ◌∙◌}
use mathlib.Core.Bool.{Bool, true, false, cond, ◌&&◌}
use Prim.Native.Nat.{ℕ, zero, suc, ◌+◌, ◌-◌, ◌*◌, ◌/◌, ◌%◌, ◌^◌, ◌≤◌, ◌<◌, min}
use native.Mathlib.Nat.{pow-suc, zero-div}
use native.Mathlib.Omega.{arith}
use lib.Dec.{ltb, leb}
use lib.Pow.{pow_pos}
use borrow.Author.Tests.{le-leb, lt-leb, lt-ltb, le-ltb, ltb-true, ltb-false}
use lib.Bits.{bit_and, differ, and_step, xor_step, and_shr, xor_shr, shifted_half, shifted_even}
use Rattle.magnetar_field.specs.Gf128.{◌⊕◌}
use Rattle.magnetar_matrix.specs.Packed.{bit_at}
use Rattle.magnetar_matrix.proofs.SetBits.{bit-suc, bit-zero}

-- ---- two words
pub bit-and : (a b i : ℕ) → bit_at (bit_and a b) i ≡ min (bit_at a i) (bit_at b i)
bit-and a b i = ap (λ (n : ℕ). n % 2) (and_shr a b i ∙ and_step (a / 2 ^ i) (b / 2 ^ i)) ∙ low _ _ _
  where
    low : (h x y : ℕ) → (h * 2 + min (x % 2) (y % 2)) % 2 ≡ min (x % 2) (y % 2)
    low h x y = omega arith

pub bit_xor : (a b i : ℕ) → bit_at (a ⊕ b) i ≡ differ (bit_at a i) (bit_at b i)
unfolding ◌⊕◌
bit_xor a b i = ap (λ (n : ℕ). n % 2) (xor_shr a b i ∙ xor_step (a / 2 ^ i) (b / 2 ^ i)) ∙ low _ (a / 2 ^ i) (b / 2 ^ i)
  where
    bit : (x y : ℕ) → x < 2 → y < 2 → differ x y < 2
    bit zero y h k = k
    bit (suc x) zero h k = h
    bit (suc zero) (suc y) h k = omega arith
    bit (suc (suc x)) (suc y) h k = absurd (omega arith)

    low : (h x y : ℕ) → (h * 2 + differ (x % 2) (y % 2)) % 2 ≡ differ (x % 2) (y % 2)
    low h x y = omega (arith, bit (x % 2) (y % 2) (omega arith) (omega arith))

-- ---- t ones, s bits up
ltb-suc : (i t : ℕ) → ltb (suc i) (suc t) ≡ ltb i t
ltb-suc i t = go (ltb i t) refl
  where
    go : (b : Bool) → ltb i t ≡ b → ltb (suc i) (suc t) ≡ b
    go true e = lt-ltb (suc i) (suc t) (omega (arith, ltb-true i t e))
    go false e = le-ltb (suc i) (suc t) (omega (arith, ltb-false i t e))

pub bit-ones : (t i : ℕ) → bit_at (2 ^ t - 1) i ≡ cond (ltb i t) 1 0
bit-ones zero i = rw (le-ltb i 0 (omega arith)) (ap (λ (n : ℕ). n % 2) (zero-div (2 ^ i)))
bit-ones (suc t) zero = bit-zero (2 ^ suc t - 1) ∙ rw (lt-ltb 0 (suc t) (omega arith)) (omega (arith, pow-suc 2 t, pow_pos t))
bit-ones (suc t) (suc i) =
    let e : (2 ^ suc t - 1) / 2 ≡ 2 ^ t - 1 = omega (arith, pow-suc 2 t, pow_pos t) in
    bit-suc (2 ^ suc t - 1) i ∙ rw (e, bit-ones t i, ltb-suc i t)

pub bit_moved : (n s i : ℕ) → bit_at (n * 2 ^ s) i ≡ cond (ltb i s) 0 (bit_at n (i - s))
bit_moved n zero i =
    let e : n * 2 ^ 0 ≡ n = omega arith in
    let d : i - 0 ≡ i = omega arith in
    rw (e, le-ltb i 0 (omega arith), d)
bit_moved n (suc s) zero = rw (lt-ltb 0 (suc s) (omega arith)) (bit-zero (n * 2 ^ suc s) ∙ shifted_even n s)
bit_moved n (suc s) (suc i) =
    let d : suc i - suc s ≡ i - s = omega arith in
    bit-suc (n * 2 ^ suc s) i ∙ (ap (λ (m : ℕ). bit_at m i) (shifted_half n s) ∙ rw (ltb-suc i s, d) (bit_moved n s i))

-- a run: bit i is one of the t bits from s on
pub bit-run : (t s i : ℕ) → bit_at ((2 ^ t - 1) * 2 ^ s) i ≡ cond (leb s i && ltb i (s + t)) 1 0
bit-run t s i = bit_moved (2 ^ t - 1) s i ∙ go (ltb i s) refl
  where
    go : (b : Bool) → ltb i s ≡ b → cond b 0 (bit_at (2 ^ t - 1) (i - s)) ≡ cond (leb s i && ltb i (s + t)) 1 0
    go true e = rw (lt-leb s i (ltb-true i s e))
    go false e =
        let h : s ≤ i = ltb-false i s e in
        bit-ones t (i - s) ∙ rw (le-leb s i h, from (ltb (i - s) t) refl)
      where
        from : (b : Bool) → ltb (i - s) t ≡ b → ltb i (s + t) ≡ b
        from true k = lt-ltb i (s + t) (omega (arith, ltb-true (i - s) t k))
        from false k = le-ltb i (s + t) (omega (arith, ltb-false (i - s) t k, ltb-false i s e))
