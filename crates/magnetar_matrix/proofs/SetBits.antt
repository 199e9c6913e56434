-- The lowest set bit of a number, and the number without it.
-- Assumes nothing.
use mathlib.Core.Path.{◌≡◌, refl, sym, ap, ◌∙◌}
use Prim.Native.Nat.{ℕ, zero, suc, ◌+◌, ◌-◌, ◌*◌, ◌/◌, ◌%◌, ◌^◌, ◌≤◌, ◌<◌}
use native.Mathlib.Nat.{pow-suc, lt_of_lt_of_le, mod-lt}
use native.Mathlib.Omega.{arith}
use lib.Count.{count_trailing_zeros, under}
use lib.Bits.{bit_and, and_step, and_self, and_le_r}
use lib.Pow.{shr-shr, shr_lt, pow_mono, pow_pos, field, mod-mod-pow}
use Rattle.magnetar_matrix.specs.Packed.{bit_at}

-- bit t of n is the lowest that is set; n & (n - 1) is n without it
pub record Lowest (n t : ℕ) : Type 0 where
  pub set : bit_at n t ≡ 1
  pub below : (i : ℕ) → i < t → bit_at n i ≡ 0
  pub here : bit_at (bit_and n (n - 1)) t ≡ 0
  pub there : (i : ℕ) → (i ≡ t → ⊥) → bit_at (bit_and n (n - 1)) i ≡ bit_at n i

-- bits above the lowest
pub bit-suc : (n i : ℕ) → bit_at n (suc i) ≡ bit_at (n / 2) i
bit-suc n i =
    let e : 1 + i ≡ suc i = omega arith in
    ap (λ (x : ℕ). x % 2) (sym (rw e at (shr-shr n 1 i)))

pub bit-zero : (n : ℕ) → bit_at n 0 ≡ n % 2
bit-zero n = let e : n / 1 ≡ n = omega arith in ap (λ (x : ℕ). x % 2) e

-- twice a number
pub bit-twice : (a i : ℕ) → bit_at (a * 2) (suc i) ≡ bit_at a i
bit-twice a i = let e : a * 2 / 2 ≡ a = omega arith in bit-suc (a * 2) i ∙ rw e

and-odd : (n : ℕ) → n % 2 ≡ 1 → bit_and n (n - 1) ≡ n / 2 * 2
and-odd n o =
    let h : (n - 1) / 2 ≡ n / 2 = omega arith in
    let z : (n - 1) % 2 ≡ 0 = omega arith in
    and_step n (n - 1) ∙ rw (h, o, z, and_self (n / 2)) (omega arith)

and-even : (n : ℕ) → 0 < n → n % 2 ≡ 0 → bit_and n (n - 1) ≡ bit_and (n / 2) (n / 2 - 1) * 2
and-even n p e =
    let h : (n - 1) / 2 ≡ n / 2 - 1 = omega arith in
    let o : (n - 1) % 2 ≡ 1 = omega arith in
    and_step n (n - 1) ∙ rw (h, o, e) (omega arith)

lowest-odd : (n : ℕ) → n % 2 ≡ 1 → Lowest n 0
lowest-odd n o = record {
  set = bit-zero n ∙ o;
  below = λ i h. absurd (omega arith);
  here = rw (and-odd n o) (bit-zero (n / 2 * 2) ∙ omega arith);
  there = other;
}
  where
    other : (i : ℕ) → (i ≡ 0 → ⊥) → bit_at (bit_and n (n - 1)) i ≡ bit_at n i
    other zero h = absurd (h refl)
    other (suc i) h = rw (and-odd n o) (bit-twice (n / 2) i ∙ sym (bit-suc n i))

lowest-even : (n t : ℕ) → 0 < n → n % 2 ≡ 0 → Lowest (n / 2) t → Lowest n (suc t)
lowest-even n t p e l = record {
  set = bit-suc n t ∙ l.set;
  below = lower;
  here = rw (and-even n p e) (bit-twice (bit_and (n / 2) (n / 2 - 1)) t ∙ l.here);
  there = other;
}
  where
    lower : (i : ℕ) → i < suc t → bit_at n i ≡ 0
    lower zero h = bit-zero n ∙ e
    lower (suc i) h = bit-suc n i ∙ l.below i (omega arith)

    other : (i : ℕ) → (i ≡ suc t → ⊥) → bit_at (bit_and n (n - 1)) i ≡ bit_at n i
    other zero h =
        rw (and-even n p e) (bit-zero (bit_and (n / 2) (n / 2 - 1) * 2) ∙ (twice (bit_and (n / 2) (n / 2 - 1)) ∙ sym (bit-zero n ∙ e)))
      where
        twice : (a : ℕ) → a * 2 % 2 ≡ 0
        twice a = omega arith
    other (suc i) h =
        rw (and-even n p e) (bit-twice (bit_and (n / 2) (n / 2 - 1)) i ∙ (l.there i (λ q. h (ap suc q)) ∙ sym (bit-suc n i)))

pub lowest : (k n : ℕ) → 0 < n → n < 2 ^ k → Lowest n (count_trailing_zeros k n)
unfolding count_trailing_zeros
lowest zero n p h = absurd (omega arith)
lowest (suc k) n p h = go (n % 2) refl (λ a b. lowest k (n / 2) a b)
  where
    go : (r : ℕ) → n % 2 ≡ r → (0 < n / 2 → n / 2 < 2 ^ k → Lowest (n / 2) (count_trailing_zeros k (n / 2)))
        → Lowest n (under r (count_trailing_zeros k (n / 2)))
    go zero e l = lowest-even n (count_trailing_zeros k (n / 2)) p e (l (omega arith) (omega (arith, pow-suc 2 k)))
    go (suc zero) e l = lowest-odd n e
    go (suc (suc r)) e l = absurd (omega arith)

-- it is less
pub cleared-less : (n : ℕ) → 0 < n → bit_and n (n - 1) < n
cleared-less n p = omega (arith, and_le_r n (n - 1))

-- ---- bits of a part of a number
bit_high : (n i : ℕ) → n < 2 ^ i → bit_at n i ≡ 0
bit_high n i h =
    let e : 0 + i ≡ i = omega arith in
    let l : n / 2 ^ i < 1 = shr_lt 0 i (rw e h) in
    let z : n / 2 ^ i ≡ 0 = omega arith in
    rw z

pub bit_past : (n i : ℕ) → n < 2 ^ 64 → 64 ≤ i → bit_at n i ≡ 0
bit_past n i h l = bit_high n i (lt_of_lt_of_le h (pow_mono {i = 64} {j = i} l))

pub bit-low : (n k i : ℕ) → i < k → bit_at (n % 2 ^ k) i ≡ bit_at n i
bit-low n k i h =
    let e : suc (k - i - 1) + i ≡ k = omega arith in
    let o : suc (k - i - 1) ≡ k - i - 1 + 1 = omega arith in
    ap (λ (x : ℕ). x % 2) (rw e at (field n (suc (k - i - 1)) i)) ∙ rw o (mod-mod-pow (n / 2 ^ i) (k - i - 1) 1)

pub bit_cut : (n k i : ℕ) → k ≤ i → bit_at (n % 2 ^ k) i ≡ 0
bit_cut n k i h = bit_high (n % 2 ^ k) i (lt_of_lt_of_le (mod-lt n (pow_pos k)) (pow_mono {i = k} {j = i} h))
