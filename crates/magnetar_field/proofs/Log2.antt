-- The logarithm to the base 2 by halving.
-- Assumes nothing.
use Rattle.std.proofs.Common.{◌≡◌, ℕ, zero, suc, ◌+◌, ◌-◌, ◌*◌, ◌/◌, ◌%◌, ◌^◌, ◌<◌, ◌≤◌, refl, ap, ◌∙◌, mod-eq_of_lt, pow-suc, lt_of_not-le, zero-add, arith, pow_pos, pow_mono, pow-add, le-ltb, lt-ltb, Bool, true, false, eqb, eq-eqb, ne_eqb, eqb-true, sym}
use borrow.Author.Tests.{eqb-false}
use native.Mathlib.Nat.{mul-mod_right}
use lib.Pow.{pow-lt}
use Rattle.std.specs.Int.{is_power_of_two}
use Rattle.std.specs.Int.Count.{ones, ones_step}
use Rattle.std.proofs.lemmas.Nat.{ones_le_self, zero_from_ones}
use Rattle.magnetar_field.specs.Sizes.{halvings, log₂, power_of_two}

-- below 2, nothing is left to halve
pub halvings-end : (k n : ℕ) → n < 2 → halvings k n ≡ 0
unfolding halvings
halvings-end zero n h = refl
halvings-end (suc k) n h = rw (lt-ltb n 2 h)

pub halvings-more : (k n : ℕ) → 2 ≤ n → halvings (suc k) n ≡ suc (halvings k (n / 2))
unfolding halvings
halvings-more k n h = rw (le-ltb n 2 h)

pub halvings-pow : (k j : ℕ) → j < k → halvings k (2 ^ j) ≡ j
halvings-pow zero j h = absurd (omega arith)
halvings-pow (suc k) zero h = halvings-end (suc k) 1 (omega arith)
halvings-pow (suc k) (suc j) h =
    let e : 2 ^ suc j / 2 ≡ 2 ^ j = omega (arith, pow-suc 2 j) in
    halvings-more k (2 ^ suc j) (omega (arith, pow-suc 2 j, pow_pos j)) ∙ rw (e, halvings-pow k j (omega arith))

-- the logarithm of a power of two
pub log₂-pow : (j : ℕ) → j < 64 → log₂ (2 ^ j) ≡ j
unfolding log₂
log₂-pow j h = halvings-pow 64 j h

-- 2 ^ log n is at most n, which is below twice that
pub record Log (n k : ℕ) : Type 0 where
  pub least : 2 ^ k ≤ n
  pub most : n < 2 ^ suc k

pub log-halvings : (k n : ℕ) → 0 < n → n < 2 ^ k → Log n (halvings k n)
log-halvings zero n p h = absurd (omega arith)
log-halvings (suc k) zero p h = elim p [ ]
log-halvings (suc k) (suc zero) p h = rw (halvings-end (suc k) 1 (omega arith)) (record { least = omega arith; most = omega arith })
log-halvings (suc k) (suc (suc n)) p h =
    let l : Log (suc (suc n) / 2) (halvings k (suc (suc n) / 2)) = log-halvings k (suc (suc n) / 2) (omega arith) (omega (arith, pow-suc 2 k)) in
    rw (halvings-more k (suc (suc n)) (omega arith)) (record {
      least = omega (arith, l.least, pow-suc 2 (halvings k (suc (suc n) / 2)));
      most = omega (arith, l.most, pow-suc 2 (suc (halvings k (suc (suc n) / 2))));
    })

pub log₂-is : (n : ℕ) → 0 < n → n < 2 ^ 64 → Log n (log₂ n)
unfolding log₂
log₂-is n p h = log-halvings 64 n p h

pub log₂-zero : log₂ 0 ≡ 0
unfolding log₂
log₂-zero = halvings-end 64 0 (omega arith)

-- the logarithm is the only such number
pub log₂-only : (n k : ℕ) → n < 2 ^ 64 → 2 ^ k ≤ n → n < 2 * 2 ^ k → k ≡ log₂ n
log₂-only n k h least most =
    let l = log₂-is n (omega (arith, pow_pos k)) h in
    same (log₂ n) l.least l.most
  where
    same : (j : ℕ) → 2 ^ j ≤ n → n < 2 ^ suc j → k ≡ j
    same j least' most' =
        let below : (j < k → ⊥) = λ b. omega (arith, pow_mono {i = suc j} {j = k} b) in
        let above : (k < j → ⊥) = λ b. omega (arith, pow-suc 2 k, pow_mono {i = suc k} {j = j} b) in
        omega arith

-- ---- a number of one bit is a power of two
ones-power : (k : ℕ) → ones (2 ^ k) ≡ 1
ones-power zero = omega (arith, ones_step 1, ones_le_self 0)
ones-power (suc k) =
    let even : 2 ^ suc k % 2 ≡ 0 = omega (arith, pow-suc 2 k) in
    let half : 2 ^ suc k / 2 ≡ 2 ^ k = omega (arith, pow-suc 2 k) in
    ones_step (2 ^ suc k) ∙ rw (even, half, ones-power k)

power-of-ones : (k n : ℕ) → n < 2 ^ k → ones n ≡ 1 → (j : ℕ) × (n ≡ 2 ^ j)
power-of-ones zero n h e = absurd (omega (arith, ones_le_self n))
power-of-ones (suc k) n h e = go (n % 2) refl (λ f. power-of-ones k (n / 2) (omega (arith, pow-suc 2 k)) f)
  where
    go : (b : ℕ) → n % 2 ≡ b → (ones (n / 2) ≡ 1 → (j : ℕ) × (n / 2 ≡ 2 ^ j)) → (j : ℕ) × (n ≡ 2 ^ j)
    go zero z half =
        let below = half (omega (arith, ones_step n)) in
        (suc below.0, omega (arith, below.1, pow-suc 2 below.0))
    go (suc b) z half =
        let none : n / 2 ≡ 0 = zero_from_ones (n / 2) (omega (arith, ones_step n)) in
        (0, omega arith)

pub one-bit : (n : ℕ) → n < 2 ^ 64 → is_power_of_two n ≡ power_of_two n
one-bit n h = go (eqb (ones n) 1) refl
  where
    go : (b : Bool) → eqb (ones n) 1 ≡ b → b ≡ power_of_two n
    go true t =
        let one = power-of-ones 64 n h (eqb-true (ones n) 1 t) in
        let e : one.0 ≡ log₂ n = log₂-only n one.0 h (omega (arith, one.1)) (omega (arith, one.1, pow_pos one.0)) in
        sym (eq-eqb _ _ (one.1 ∙ rw e))
    go false t = sym (ne_eqb _ _ (λ e. eqb-false (ones n) 1 t (ap ones e ∙ ones-power (log₂ n))))

-- ---- the loop that halves: rest is n halved k times, and left halvings would do for any number
pub record Halved (n rest k : ℕ) : Type 0 where
  pub left : ℕ
  pub all : k + left ≡ 64
  pub small : rest < 2 ^ left
  pub log : k + halvings left rest ≡ log₂ n

pub halved-start : (n : ℕ) → n < 2 ^ 64 → Halved n n 0
unfolding log₂
halved-start n h = record { left = 64; all = refl; small = h; log = zero-add (halvings 64 n) }

halved-step : (n rest k left : ℕ) → 1 < rest → k + left ≡ 64 → rest < 2 ^ left → k + halvings left rest ≡ log₂ n
    → Halved n (rest / 2) (k + 1)
halved-step n rest k zero b a s l = absurd (omega arith)
halved-step n rest k (suc left) b a s l = record {
  left = left;
  all = omega arith;
  small = omega (arith, pow-suc 2 left);
  log = omega (arith, l, halvings-more left rest b);
}

pub halved-more : (n rest k : ℕ) → Halved n rest k → 1 < rest → Halved n (rest / 2) (k + 1)
halved-more n rest k h b = halved-step n rest k h.left b h.all h.small h.log

pub halved-end : (n rest k : ℕ) → Halved n rest k → rest ≤ 1 → k ≡ log₂ n
halved-end n rest k h s = omega (arith, h.log, halvings-end h.left rest (omega arith))

pub log₂-lt : (n : ℕ) → n < 2 ^ 64 → log₂ n < 64
log₂-lt zero h = rw log₂-zero (omega arith)
log₂-lt (suc n) h = small (log₂ (suc n)) (log₂-is (suc n) (omega arith) h).least
  where
    small : (k : ℕ) → 2 ^ k ≤ suc n → k < 64
    small k l = lt_of_not-le (λ b. omega (arith, pow_mono {i = 64} {j = k} b, h))

-- ---- the powers of two that a word of 64 bits holds, and those that it does not
pub power-is : (k : ℕ) → k < 64 → 2 ^ k % 2 ^ 64 ≡ 2 ^ k
power-is k h = mod-eq_of_lt (pow-lt h)

pub power-past : (k : ℕ) → 64 ≤ k → 2 ^ k % 2 ^ 64 ≡ 0
power-past k h =
    let e : k ≡ 64 + (k - 64) = omega arith in
    let p : 2 ^ k ≡ 2 ^ 64 * 2 ^ (k - 64) = ap (λ (j : ℕ). 2 ^ j) e ∙ pow-add 2 64 (k - 64) in
    ap (λ (n : ℕ). n % 2 ^ 64) p ∙ mul-mod_right (2 ^ 64) (2 ^ (k - 64))

-- the number of variables of a table that half n words hold
pub log₂-half : (n : ℕ) → n < 2 ^ 64 → log₂ (n / 2) < 63
log₂-half n h = go (n / 2) (omega arith)
  where
    go : (m : ℕ) → m < 2 ^ 63 → log₂ m < 63
    go zero l = let e : log₂ 0 ≡ 0 = unfold log₂ in halvings-end 64 0 (omega arith) in omega (arith, e)
    go (suc m) l = lt_of_not-le (λ b. omega (arith, pow_mono {i = 63} {j = log₂ (suc m)} b, (log₂-is (suc m) (omega arith) (omega arith)).least))
