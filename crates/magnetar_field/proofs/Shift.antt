-- Shifts of numbers that several words make, the lowest word first: what a word loses at its top, the next one gains.
-- Assumes nothing.
use Rattle.std.proofs.Common.{◌≡◌, ℕ, ◌+◌, ◌*◌, ◌/◌, ◌%◌, ◌^◌, ◌<◌, sym, ap, ◌∙◌, ap₂, add-zero, mod-lt, mul_comm, add-mul, add_comm, div-add-mod', mul_right_comm, mul-div_cancel, arith, pow_pos, pow-add, shr_lt}
use native.Mathlib.Nat.{mul-mod_left, div-div-eq-div-mul}
use lib.Arith.{mod-mul}
use lib.Bits.{bit_or, or_shifted}
use lib.Pow.{high, low, mod-pow-add}

module _ (j k : ℕ) (e : j + k ≡ 64) where
  -- the top of a word, k bits of it
  pub top_of : (w : ℕ) → w * 2 ^ k / 2 ^ 64 ≡ w / 2 ^ j
  top_of w =
      ap (λ (n : ℕ). w * 2 ^ k / 2 ^ n) (sym e) ∙ ap (λ (x : ℕ). w * 2 ^ k / x) (pow-add 2 j k ∙ mul_comm (2 ^ j) (2 ^ k))
      ∙ sym (div-div-eq-div-mul (w * 2 ^ k) (2 ^ k) (2 ^ j)) ∙ ap (λ (x : ℕ). x / 2 ^ j) (mul-div_cancel w (pow_pos k))

  -- the rest of it, k places up
  pub rest_of : (w : ℕ) → w * 2 ^ k % 2 ^ 64 ≡ w % 2 ^ j * 2 ^ k
  rest_of w =
      ap (λ (n : ℕ). w * 2 ^ k % 2 ^ n) (sym e) ∙ mod-pow-add (w * 2 ^ k) j k
      ∙ ap₂ (λ (x y : ℕ). x % 2 ^ j * 2 ^ k + y) (mul-div_cancel w (pow_pos k)) (mul-mod_left w (2 ^ k)) ∙ add-zero (w % 2 ^ j * 2 ^ k)

  pub top_lt : (w : ℕ) → w < 2 ^ 64 → w / 2 ^ j < 2 ^ k
  top_lt w h = shr_lt k j (rw (add_comm k j, e) h)

  -- two words joined by `or`
  pub joined : (w v : ℕ) → v < 2 ^ 64 → bit_or (w * 2 ^ k % 2 ^ 64) (v / 2 ^ j) ≡ w * 2 ^ k % 2 ^ 64 + v / 2 ^ j
  joined w v h = rw (rest_of w) (or_shifted (w % 2 ^ j) k (v / 2 ^ j) (top_lt v h))

  -- a word, and all that is above it, k places up
  pub shifted : (H w s : ℕ) → (H * 2 ^ 64 + w) * 2 ^ k + s ≡ (H * 2 ^ k + w / 2 ^ j) * 2 ^ 64 + (w * 2 ^ k % 2 ^ 64 + s)
  shifted H w s =
      let a : w * 2 ^ k ≡ w / 2 ^ j * 2 ^ 64 + w * 2 ^ k % 2 ^ 64 = rw (← top_of w) (sym (div-add-mod' (w * 2 ^ k) (2 ^ 64))) in
      let b : (H * 2 ^ 64 + w) * 2 ^ k ≡ H * 2 ^ k * 2 ^ 64 + w * 2 ^ k = add-mul (H * 2 ^ 64) w (2 ^ k) ∙ ap (λ (x : ℕ). x + w * 2 ^ k) (mul_right_comm H (2 ^ 64) (2 ^ k)) in
      omega (arith, a, b)

  -- two words, without what passes the upper one
  pub shifted-two : (hi lo : ℕ) → lo < 2 ^ 64
      → bit_or (hi * 2 ^ k % 2 ^ 64) (lo / 2 ^ j) * 2 ^ 64 + lo * 2 ^ k % 2 ^ 64 ≡ (hi * 2 ^ 64 + lo) * 2 ^ k % 2 ^ 128
  shifted-two hi lo h =
      let r : lo * 2 ^ k % 2 ^ 64 < 2 ^ 64 = mod-lt (lo * 2 ^ k) (pow_pos 64) in
      let a : (hi * 2 ^ 64 + lo) * 2 ^ k ≡ (hi * 2 ^ k + lo / 2 ^ j) * 2 ^ 64 + lo * 2 ^ k % 2 ^ 64 = omega (arith, shifted hi lo 0) in
      let t : (hi * 2 ^ k + lo / 2 ^ j) % 2 ^ 64 ≡ hi * 2 ^ k % 2 ^ 64 + lo / 2 ^ j = top-two hi (lo / 2 ^ j) (top_lt lo h) in
      rw (joined hi lo h, a, mod-mul ((hi * 2 ^ k + lo / 2 ^ j) * 2 ^ 64 + lo * 2 ^ k % 2 ^ 64) (pow_pos 64) (pow_pos 64), high (hi * 2 ^ k + lo / 2 ^ j) 64 r, low (hi * 2 ^ k + lo / 2 ^ j) 64 r, t)
    where
      top-two : (a s : ℕ) → s < 2 ^ k → (a * 2 ^ k + s) % 2 ^ 64 ≡ a * 2 ^ k % 2 ^ 64 + s
      top-two a s l =
          ap (λ (n : ℕ). (a * 2 ^ k + s) % 2 ^ n) (sym e) ∙ mod-pow-add (a * 2 ^ k + s) j k
          ∙ ap₂ (λ (x y : ℕ). x % 2 ^ j * 2 ^ k + y) (high a k l) (low a k l) ∙ ap (λ (x : ℕ). x + s) (sym (rest_of a))
