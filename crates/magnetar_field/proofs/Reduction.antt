-- The remainder of a polynomial of degree below 256, and times x^k in GF(2^128), as shifts of words.
-- Assumes nothing.
use Rattle.std.proofs.Common.{◌≡◌, ℕ, zero, suc, ◌+◌, ◌*◌, ◌/◌, ◌%◌, ◌^◌, ◌<◌, ◌≤◌, sym, refl, ap, ◌∙◌, ap₂, lt_of_lt_of_le, add-zero, add_assoc, mod-lt, mod-eq_of_lt, mul_assoc, add-mul, suc-add, pow-suc, zero-add, zero-mul, mul-one, mul-div_cancel, arith, lit<, lit≤, pow_pos, pow_mono, pow-add, shl_lt, shr-shr, shr_lt}
use native.Mathlib.Nat.{mul-mod_left, div-div-eq-div-mul}
use lib.Arith.{lt-one, digits_lt}
use lib.Pow.{high, low, mod-pow-add}
use Rattle.magnetar_field.specs.Gf128.{◌⊕◌, ◌⊗◌, x¹²⁸, times_x, sum_times}
use Rattle.magnetar_field.specs.Residue.{residue}
use Rattle.magnetar_field.proofs.Xor.{xor, zero-⊕, ⊕-lt, ⊕-assoc, ⊕-comm, top, two_pos, half_lt_pow, Additive}
use Rattle.magnetar_field.proofs.Product.{sum_times-⊕-r, sum_times-zero, sum_times-times_x, times_x-⊕, xpow, xpow-suc, xpow-one, ⊗-⊕, ⊗-pow, ⊗-xpow, ⊗-one, one-⊗}

-- a number of j bits has n bits
pub widen : (j n : ℕ) {a : ℕ} → a < 2 ^ j → j ≤ n → a < 2 ^ n
widen j n h l = lt_of_lt_of_le h (pow_mono l)

-- ---- sums of fewer terms
sum_times-short : (n k a b : ℕ) → b < 2 ^ n → sum_times (n + k) a b ≡ sum_times n a b
unfolding sum_times
sum_times-short zero k a b h = ap (sum_times (0 + k) a) (lt-one h) ∙ sum_times-zero (0 + k) a
sum_times-short (suc n) k a b h =
    ap (λ (x : ℕ). sum_times x a b) (suc-add n k) ∙ ap (λ (x : ℕ). b % 2 * a ⊕ x) (sum_times-short n k (times_x a) (b / 2) (half_lt_pow n b h))

sum_times-double : (n a b : ℕ) → sum_times (suc n) a (b * 2) ≡ times_x (sum_times n a b)
unfolding sum_times
sum_times-double n a b =
    ap₂ (λ (x y : ℕ). x * a ⊕ sum_times n (times_x a) y) (mul-mod_left b 2) (mul-div_cancel b two_pos)
    ∙ ap (λ (x : ℕ). x ⊕ sum_times n (times_x a) b) (zero-mul a) ∙ zero-⊕ (sum_times n (times_x a) b) ∙ sym (sum_times-times_x n a b)

-- ---- the remainder
pub residue-⊕ : Additive residue
unfolding residue
residue-⊕ u v = sum_times-⊕-r 256 1 u v

pub residue-double : (u : ℕ) → u < 2 ^ 255 → residue (u * 2) ≡ times_x (residue u)
unfolding residue
residue-double u h = sum_times-double 255 1 u ∙ ap times_x (sym (sum_times-short 255 1 1 u h))

-- an element is its own remainder
pub residue-small : (u : ℕ) → u < 2 ^ 128 → residue u ≡ u
unfolding residue ◌⊗◌
residue-small u h = sum_times-short 128 128 1 u h ∙ one-⊗ u h

pub residue-shift : (k j u : ℕ) → k + j ≡ 256 → u < 2 ^ j → residue (u * 2 ^ k) ≡ xpow k (residue u)
unfolding xpow
residue-shift zero j u e h = rw mul-one
residue-shift (suc k) j u e h =
    let a : u * 2 ^ suc k ≡ u * 2 ^ k * 2 = rw (pow-suc, ← mul_assoc) in
    let b : u * 2 ^ k < 2 ^ 255 = widen (j + k) 255 (shl_lt j k h) (omega arith) in
    let c : u < 2 ^ suc j = widen j (suc j) h (omega arith) in
    rw a (residue-double (u * 2 ^ k) b ∙ ap times_x (residue-shift k (suc j) u (omega arith) c) ∙ sym (xpow-suc k (residue u)))

-- ---- times x^k
pub xpow-⊕ : (k : ℕ) → Additive (xpow k)
unfolding xpow
xpow-⊕ zero a b = refl
xpow-⊕ (suc k) a b = ap (xpow k) (times_x-⊕ a b) ∙ xpow-⊕ k (times_x a) (times_x b)

pub xpow-small : (k j a : ℕ) → k + j ≡ 128 → a < 2 ^ j → xpow k a ≡ a * 2 ^ k
xpow-small k j a e h =
    let r : a < 2 ^ 128 = widen j 128 h (omega arith) in
    let s : a * 2 ^ k < 2 ^ 128 = widen (j + k) 128 (shl_lt j k h) (omega arith) in
    ap (xpow k) (sym (residue-small a r)) ∙ sym (residue-shift k (128 + j) a (omega arith) (widen j (128 + j) h (omega arith)))
    ∙ residue-small (a * 2 ^ k) s

-- a times a polynomial that x^k divides
pub ⊗-shift : (k j a b : ℕ) → k + j ≡ 128 → b < 2 ^ j → a ⊗ (b * 2 ^ k) ≡ xpow k (a ⊗ b)
⊗-shift k j a b e h =
    ap (λ (x : ℕ). a ⊗ x) (sym (xpow-small k j b e h)) ∙ ⊗-xpow k a b (widen j 128 h (omega arith))

-- what passes x^127 comes back times x^128
pub residue-split : (u : ℕ) → u < 2 ^ 256 → residue u ≡ u % 2 ^ 128 ⊕ xpow 128 (u / 2 ^ 128)
residue-split u h =
    let q : u / 2 ^ 128 < 2 ^ 128 = shr_lt 128 128 h in
    ap residue (top u 128) ∙ residue-⊕ (u / 2 ^ 128 * 2 ^ 128) (u % 2 ^ 128)
    ∙ ap₂ ◌⊕◌ (residue-shift 128 128 (u / 2 ^ 128) refl q ∙ ap (xpow 128) (residue-small (u / 2 ^ 128) q)) (residue-small (u % 2 ^ 128) (mod-lt u (pow_pos 128)))
    ∙ ⊕-comm _ _

x¹²⁸-is : xpow 128 1 ≡ x¹²⁸
unfolding times_x ◌⊕◌
x¹²⁸-is = xpow-suc 127 1 ∙ ap times_x (xpow-one 127 (lit< tt))

-- x^128 is x^7 + x^2 + x + 1
pub xpow-128 : (h : ℕ) → h < 2 ^ 128 → xpow 128 h ≡ xpow 7 h ⊕ xpow 2 h ⊕ (xpow 1 h ⊕ h)
xpow-128 h b =
    ap (xpow 128) (sym (⊗-one h b)) ∙ sym (⊗-xpow 128 h 1 (lit< tt)) ∙ ap (λ (x : ℕ). h ⊗ x) (x¹²⁸-is ∙ four)
    ∙ ⊗-⊕ h (2 ^ 7 ⊕ 2 ^ 2) (2 ^ 1 ⊕ 2 ^ 0)
    ∙ ap₂ ◌⊕◌ (⊗-⊕ h (2 ^ 7) (2 ^ 2) ∙ ap₂ ◌⊕◌ (at 7 (lit< tt)) (at 2 (lit< tt))) (⊗-⊕ h (2 ^ 1) (2 ^ 0) ∙ ap₂ ◌⊕◌ (at 1 (lit< tt)) (⊗-one h b))
  where
    four : x¹²⁸ ≡ 2 ^ 7 ⊕ 2 ^ 2 ⊕ (2 ^ 1 ⊕ 2 ^ 0)
    four = unfold ◌⊕◌ in refl

    at : (k : ℕ) → k < 128 → h ⊗ 2 ^ k ≡ xpow k h
    at k l = ⊗-pow h k l ∙ ap (xpow k) (mod-eq_of_lt b)

-- times x^k, by what stays below x^128 and what passes it
pub xpow-split : (k j h : ℕ) → k + j ≡ 128 → h < 2 ^ 128 → xpow k h ≡ h * 2 ^ k % 2 ^ 128 ⊕ xpow 128 (h / 2 ^ j)
xpow-split k j h e b =
    let s : h * 2 ^ k < 2 ^ 256 = widen (128 + k) 256 (shl_lt 128 k b) (omega arith) in
    ap (xpow k) (sym (residue-small h b)) ∙ sym (residue-shift k (128 + j) h (omega arith) (widen 128 (128 + j) b (omega arith)))
    ∙ residue-split (h * 2 ^ k) s ∙ ap (λ (x : ℕ). h * 2 ^ k % 2 ^ 128 ⊕ xpow 128 x) (quotient k j h e)
  where
    quotient : (k j h : ℕ) → k + j ≡ 128 → h * 2 ^ k / 2 ^ 128 ≡ h / 2 ^ j
    quotient k j h e =
        ap (λ (x : ℕ). h * 2 ^ k / 2 ^ x) (sym e) ∙ ap (λ (x : ℕ). h * 2 ^ k / x) (pow-add 2 k j)
        ∙ sym (div-div-eq-div-mul (h * 2 ^ k) (2 ^ k) (2 ^ j)) ∙ ap (λ (x : ℕ). x / 2 ^ j) (mul-div_cancel h (pow_pos k))

-- ---- the reduction of h x^128 + l
fold-back : (h : ℕ) → h < 2 ^ 128 → xpow 128 h
    ≡ h * 2 ^ 7 % 2 ^ 128 ⊕ h * 2 ^ 2 % 2 ^ 128 ⊕ (h * 2 ^ 1 % 2 ^ 128 ⊕ h) ⊕ xpow 128 (h / 2 ^ 121 ⊕ h / 2 ^ 126 ⊕ h / 2 ^ 127)
fold-back h b =
    xpow-128 h b
    ∙ ap₂ ◌⊕◌ (ap₂ ◌⊕◌ (xpow-split 7 121 h refl b) (xpow-split 2 126 h refl b)) (ap (λ (x : ℕ). x ⊕ h) (xpow-split 1 127 h refl b))
    ∙ regroup (h * 2 ^ 7 % 2 ^ 128) (h * 2 ^ 2 % 2 ^ 128) (h * 2 ^ 1 % 2 ^ 128) h (xpow 128 (h / 2 ^ 121)) (xpow 128 (h / 2 ^ 126)) (xpow 128 (h / 2 ^ 127))
    ∙ ap (λ (x : ℕ). h * 2 ^ 7 % 2 ^ 128 ⊕ h * 2 ^ 2 % 2 ^ 128 ⊕ (h * 2 ^ 1 % 2 ^ 128 ⊕ h) ⊕ x)
    (sym (xpow-⊕ 128 (h / 2 ^ 121 ⊕ h / 2 ^ 126) (h / 2 ^ 127) ∙ ap (λ (x : ℕ). x ⊕ xpow 128 (h / 2 ^ 127)) (xpow-⊕ 128 (h / 2 ^ 121) (h / 2 ^ 126))))
  where
    regroup : (a b c d x y z : ℕ) → a ⊕ x ⊕ (b ⊕ y) ⊕ (c ⊕ z ⊕ d) ≡ a ⊕ b ⊕ (c ⊕ d) ⊕ (x ⊕ y ⊕ z)
    regroup a b c d x y z = simp xor

-- what is left has 7 bits, and comes back below x^128
fold-rest : (q : ℕ) → q < 2 ^ 7 → xpow 128 q ≡ q * 2 ^ 7 ⊕ q * 2 ^ 2 ⊕ q * 2 ^ 1 ⊕ q
fold-rest q b =
    xpow-128 q (widen 7 128 b (lit≤ tt))
    ∙ ap₂ ◌⊕◌ (ap₂ ◌⊕◌ (xpow-small 7 121 q refl (widen 7 121 b (lit≤ tt))) (xpow-small 2 126 q refl (widen 7 126 b (lit≤ tt))))
    (ap (λ (x : ℕ). x ⊕ q) (xpow-small 1 127 q refl (widen 7 127 b (lit≤ tt))))
    ∙ sym (⊕-assoc (q * 2 ^ 7 ⊕ q * 2 ^ 2) (q * 2 ^ 1) q)

pub rest_lt : (h : ℕ) → h < 2 ^ 128 → h / 2 ^ 121 ⊕ h / 2 ^ 126 ⊕ h / 2 ^ 127 < 2 ^ 7
rest_lt h b =
    ⊕-lt 7 _ _ (⊕-lt 7 _ _ (shr_lt 7 121 b) (widen 2 7 (shr_lt 2 126 b) (lit≤ tt))) (widen 1 7 (shr_lt 1 127 b) (lit≤ tt))

pub reduced : (h l s7 s2 s1 q rest : ℕ) → h < 2 ^ 128 → l < 2 ^ 128 → s7 ≡ h * 2 ^ 7 % 2 ^ 128 → s2 ≡ h * 2 ^ 2 % 2 ^ 128 → s1 ≡ h * 2 ^ 1 % 2 ^ 128
    → q ≡ h / 2 ^ 121 ⊕ h / 2 ^ 126 ⊕ h / 2 ^ 127 → rest ≡ q * 2 ^ 7 ⊕ q * 2 ^ 2 ⊕ q * 2 ^ 1 ⊕ q
    → residue (h * 2 ^ 128 + l) ≡ l ⊕ (s7 ⊕ s2 ⊕ (s1 ⊕ h) ⊕ rest)
reduced h l s7 s2 s1 q rest b c e7 e2 e1 eq er =
    residue-split (h * 2 ^ 128 + l) (digits_lt b c)
    ∙ ap₂ (λ (x y : ℕ). x ⊕ xpow 128 y) (low h 128 c) (high h 128 c)
    ∙ ap (λ (x : ℕ). l ⊕ x) (fold-back h b)
    ∙ rw (e7, e2, e1, er, eq) (ap (λ (x : ℕ). l ⊕ (h * 2 ^ 7 % 2 ^ 128 ⊕ h * 2 ^ 2 % 2 ^ 128 ⊕ (h * 2 ^ 1 % 2 ^ 128 ⊕ h) ⊕ x)) (fold-rest (h / 2 ^ 121 ⊕ h / 2 ^ 126 ⊕ h / 2 ^ 127) (rest_lt h b)))

-- ---- in words
-- what passes n bits above the low word
pub top-word : (n hi lo : ℕ) → lo < 2 ^ 64 → (hi * 2 ^ 64 + lo) / 2 ^ (64 + n) ≡ hi / 2 ^ n
top-word n hi lo l = sym (shr-shr (hi * 2 ^ 64 + lo) 64 n) ∙ ap (λ (x : ℕ). x / 2 ^ n) (high hi 64 l)

double-mod : (a : ℕ) → a * 2 ^ 1 % 2 ^ 128 ≡ a % 2 ^ 127 * 2
double-mod a =
    mod-pow-add (a * 2 ^ 1) 127 1
    ∙ ap₂ (λ (x y : ℕ). x % 2 ^ 127 * 2 ^ 1 + y) (mul-div_cancel a two_pos) (mul-mod_left a 2) ∙ add-zero (a % 2 ^ 127 * 2 ^ 1)

pub times_x-words : (hi lo : ℕ) → hi < 2 ^ 64 → lo < 2 ^ 64
    → hi / 2 ^ 63 * x¹²⁸ ⊕ (hi * 2 ^ 64 + lo) * 2 ^ 1 % 2 ^ 128 ≡ times_x (hi * 2 ^ 64 + lo)
unfolding times_x
times_x-words hi lo h l =
    let t : (hi * 2 ^ 64 + lo) / 2 ^ 127 % 2 ≡ hi / 2 ^ 63 = ap (λ (x : ℕ). x % 2) (top-word 63 hi lo l) ∙ mod-eq_of_lt (shr_lt 1 63 h) in
    rw (t, double-mod (hi * 2 ^ 64 + lo))

-- the upper two and the lower two of four words
pub two-and-two : (w0 w1 w2 w3 : ℕ) → ((w3 * 2 ^ 64 + w2) * 2 ^ 64 + w1) * 2 ^ 64 + w0 ≡ (w3 * 2 ^ 64 + w2) * 2 ^ 128 + (w1 * 2 ^ 64 + w0)
two-and-two w0 w1 w2 w3 =
    ap (λ (x : ℕ). x + w0) (add-mul ((w3 * 2 ^ 64 + w2) * 2 ^ 64) w1 (2 ^ 64) ∙ ap (λ (x : ℕ). x + w1 * 2 ^ 64) (mul_assoc (w3 * 2 ^ 64 + w2) (2 ^ 64) (2 ^ 64)))
    ∙ add_assoc ((w3 * 2 ^ 64 + w2) * 2 ^ 128) (w1 * 2 ^ 64) w0

module _ (w0 w1 w2 w3 : ℕ) (h0 : w0 < 2 ^ 64) (h1 : w1 < 2 ^ 64) (h2 : w2 < 2 ^ 64) (h3 : w3 < 2 ^ 64) (s7 s2 s1 : ℕ)
    (e7 : s7 ≡ (w3 * 2 ^ 64 + w2) * 2 ^ 7 % 2 ^ 128) (e2 : s2 ≡ (w3 * 2 ^ 64 + w2) * 2 ^ 2 % 2 ^ 128) (e1 : s1 ≡ (w3 * 2 ^ 64 + w2) * 2 ^ 1 % 2 ^ 128) where
  over : w3 / 2 ^ 57 ⊕ w3 / 2 ^ 62 ⊕ w3 / 2 ^ 63 ≡ (w3 * 2 ^ 64 + w2) / 2 ^ 121 ⊕ (w3 * 2 ^ 64 + w2) / 2 ^ 126 ⊕ (w3 * 2 ^ 64 + w2) / 2 ^ 127
  over = sym (ap₂ ◌⊕◌ (ap₂ ◌⊕◌ (top-word 57 w3 w2 h2) (top-word 62 w3 w2 h2)) (top-word 63 w3 w2 h2))

  low_bits : (q : ℕ) → q < 2 ^ 7
      → 0 * 2 ^ 64 + (q * 2 ^ 7 % 2 ^ 64 ⊕ q * 2 ^ 2 % 2 ^ 64 ⊕ q * 2 ^ 1 % 2 ^ 64 ⊕ q) ≡ q * 2 ^ 7 ⊕ q * 2 ^ 2 ⊕ q * 2 ^ 1 ⊕ q
  low_bits q h =
      let a : q * 2 ^ 7 % 2 ^ 64 ≡ q * 2 ^ 7 = omega arith in
      let b : q * 2 ^ 2 % 2 ^ 64 ≡ q * 2 ^ 2 = omega arith in
      let c : q * 2 ^ 1 % 2 ^ 64 ≡ q * 2 ^ 1 = omega arith in
      rw (a, b, c, zero-add)

  pub reduced-words : (q : ℕ) → q ≡ w3 / 2 ^ 57 ⊕ w3 / 2 ^ 62 ⊕ w3 / 2 ^ 63
      → w1 * 2 ^ 64 + w0 ⊕ (s7 ⊕ s2 ⊕ (s1 ⊕ (w3 * 2 ^ 64 + w2)) ⊕ (0 * 2 ^ 64 + (q * 2 ^ 7 % 2 ^ 64 ⊕ q * 2 ^ 2 % 2 ^ 64 ⊕ q * 2 ^ 1 % 2 ^ 64 ⊕ q)))
      ≡ residue (((w3 * 2 ^ 64 + w2) * 2 ^ 64 + w1) * 2 ^ 64 + w0)
  reduced-words q e =
      let b : q < 2 ^ 7 = rw (e, over) (rest_lt (w3 * 2 ^ 64 + w2) (digits_lt h3 h2)) in
      sym (ap residue (two-and-two w0 w1 w2 w3) ∙ reduced (w3 * 2 ^ 64 + w2) (w1 * 2 ^ 64 + w0) s7 s2 s1 q _ (digits_lt h3 h2) (digits_lt h1 h0) e7 e2 e1 (e ∙ over) (low_bits q b))
