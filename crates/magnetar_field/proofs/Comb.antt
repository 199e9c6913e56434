-- The product by combing: the sixteen multiples of one factor, and the loop over the other factor's bits, four of each word
-- at a time, the highest first.
-- Assumes nothing.
use Rattle.std.proofs.Common.{◌≡◌, ℕ, zero, suc, ◌+◌, ◌-◌, ◌*◌, ◌/◌, ◌%◌, ◌^◌, ◌<◌, ◌≤◌, Bool, true, false, eqb, List, length, set, sym, refl, ap, ◌∙◌, ap₂, lt_of_lt_of_le, lt_of_le_of_lt, add-zero, mod-lt, mul_comm, zero-add, div-one, arith, lit<, lit≤, length-set, get_or-set_other, get_or-set_same, pow_pos, pow-add, shr-shr, eqb-true}
use native.Mathlib.Nat.{div-eq_of_lt}
use borrow.Author.Tests.{eqb-false}
use lib.Arith.{digits_lt}
use lib.Bits.{bit_or, or_lt, xor_block, xor_shifted}
use lib.Pow.{shr_le, split}
use Rattle.magnetar_field.specs.Gf128.{◌⊕◌, ◌⊗◌, times_x}
use Rattle.magnetar_field.specs.Residue.{residue, pair_at, Multiples}
use Rattle.magnetar_field.proofs.Xor.{xor, ⊕-zero, ⊕-self, ⊕-lt, ⊕-comm, add-digit, additive-zero}
use Rattle.magnetar_field.proofs.Product.{xpow, xpow-comm, ⊗-⊕, ⊗-zero, ⊗-one, ⊗-lt}
use Rattle.magnetar_field.proofs.Reduction.{widen, residue-⊕, residue-small, residue-shift, xpow-⊕, ⊗-shift}
use Rattle.magnetar_field.proofs.Shift.{shifted, joined}

-- ---- words
pub block : (a b r s : ℕ) → r < 2 ^ 64 → s < 2 ^ 64 → a * 2 ^ 64 + r ⊕ (b * 2 ^ 64 + s) ≡ (a ⊕ b) * 2 ^ 64 + (r ⊕ s)
unfolding ◌⊕◌
block a b r s h g = xor_block 64 a b r s h g

pub low-block : (a r s : ℕ) → r < 2 ^ 64 → s < 2 ^ 64 → a * 2 ^ 64 + r ⊕ s ≡ a * 2 ^ 64 + (r ⊕ s)
low-block a r s h g =
    ap (λ (x : ℕ). a * 2 ^ 64 + r ⊕ x) (sym (zero-add s)) ∙ block a 0 r s h g ∙ ap (λ (x : ℕ). x * 2 ^ 64 + (r ⊕ s)) (⊕-zero a)

pub block-sum : (a r : ℕ) (k : ℕ) → r < 2 ^ k → a * 2 ^ k + r ≡ a * 2 ^ k ⊕ r
unfolding ◌⊕◌
block-sum a r k h = sym (xor_shifted a k r h)

-- one word more
pub append-word : (k a r : ℕ) → a < 2 ^ k → r < 2 ^ 64 → a * 2 ^ 64 + r < 2 ^ (k + 64)
append-word k a r h l = rw (pow-add 2 k 64) (digits_lt h l)

-- four words, four places up
module _ (w0 w1 w2 w3 : ℕ) (h0 : w0 < 2 ^ 64) (h1 : w1 < 2 ^ 64) (h2 : w2 < 2 ^ 64) (h3 : w3 < 2 ^ 60) where
  up : ((((w3 * 2 ^ 64 + w2) * 2 ^ 64 + w1) * 2 ^ 64 + w0) * 2 ^ 4)
      ≡ ((bit_or (w3 * 2 ^ 4 % 2 ^ 64) (w2 / 2 ^ 60) * 2 ^ 64 + bit_or (w2 * 2 ^ 4 % 2 ^ 64) (w1 / 2 ^ 60)) * 2 ^ 64 + bit_or (w1 * 2 ^ 4 % 2 ^ 64) (w0 / 2 ^ 60)) * 2 ^ 64 + w0 * 2 ^ 4 % 2 ^ 64
  up =
      let e3 : w3 * 2 ^ 4 % 2 ^ 64 ≡ w3 * 2 ^ 4 = omega arith in
      rw (joined 60 4 refl w3 w2 h2, joined 60 4 refl w2 w1 h1, joined 60 4 refl w1 w0 h0, e3, ← shifted 60 4 refl w3 w2 (w1 / 2 ^ 60), ← shifted 60 4 refl (w3 * 2 ^ 64 + w2) w1 (w0 / 2 ^ 60))
      (sym (add-zero _) ∙ shifted 60 4 refl ((w3 * 2 ^ 64 + w2) * 2 ^ 64 + w1) w0 0 ∙ rw add-zero)

-- four words, and two words at the bottom and one place up
add-two : (s0 s1 s2 s3 lx hx ly hy : ℕ) → s0 < 2 ^ 64 → s1 < 2 ^ 64 → s2 < 2 ^ 64 → lx < 2 ^ 64 → hx < 2 ^ 64 → ly < 2 ^ 64 → hy < 2 ^ 64
    → ((s3 * 2 ^ 64 + s2) * 2 ^ 64 + s1) * 2 ^ 64 + s0 ⊕ (hx * 2 ^ 64 + lx) ⊕ (hy * 2 ^ 64 + ly) * 2 ^ 64
    ≡ ((s3 * 2 ^ 64 + (s2 ⊕ hy)) * 2 ^ 64 + (s1 ⊕ hx ⊕ ly)) * 2 ^ 64 + (s0 ⊕ lx)
add-two s0 s1 s2 s3 lx hx ly hy a0 a1 a2 bx cx by cy =
    ap (λ (x : ℕ). x ⊕ (hy * 2 ^ 64 + ly) * 2 ^ 64) (block ((s3 * 2 ^ 64 + s2) * 2 ^ 64 + s1) hx s0 lx a0 bx ∙ ap (λ (x : ℕ). x * 2 ^ 64 + (s0 ⊕ lx)) (low-block (s3 * 2 ^ 64 + s2) s1 hx a1 cx))
    ∙ ap (λ (x : ℕ). ((s3 * 2 ^ 64 + s2) * 2 ^ 64 + (s1 ⊕ hx)) * 2 ^ 64 + (s0 ⊕ lx) ⊕ x) (sym (add-zero ((hy * 2 ^ 64 + ly) * 2 ^ 64)))
    ∙ block ((s3 * 2 ^ 64 + s2) * 2 ^ 64 + (s1 ⊕ hx)) (hy * 2 ^ 64 + ly) (s0 ⊕ lx) 0 (⊕-lt 64 s0 lx a0 bx) (pow_pos 64)
    ∙ ap₂ (λ (x y : ℕ). x * 2 ^ 64 + y)
    (block (s3 * 2 ^ 64 + s2) hy (s1 ⊕ hx) ly (⊕-lt 64 s1 hx a1 cx) by ∙ ap (λ (x : ℕ). x * 2 ^ 64 + (s1 ⊕ hx ⊕ ly)) (low-block s3 s2 hy a2 cy))
    (⊕-zero (s0 ⊕ lx))

joined-lt : (w v : ℕ) → v < 2 ^ 64 → bit_or (w * 2 ^ 4 % 2 ^ 64) (v / 2 ^ 60) < 2 ^ 64
joined-lt w v h = or_lt 64 _ _ (mod-lt (w * 2 ^ 4) (pow_pos 64)) (lt_of_le_of_lt (shr_le v 60) h)

-- one step of the comb, in words
module _ (w0 w1 w2 w3 lx hx ly hy : ℕ) (h0 : w0 < 2 ^ 64) (h1 : w1 < 2 ^ 64) (h2 : w2 < 2 ^ 64) (h3 : w3 < 2 ^ 60)
    (bx : lx < 2 ^ 64) (cx : hx < 2 ^ 64) (by : ly < 2 ^ 64) (cy : hy < 2 ^ 64) where
  pub comb-words : ((bit_or (w3 * 2 ^ 4 % 2 ^ 64) (w2 / 2 ^ 60) * 2 ^ 64 + (bit_or (w2 * 2 ^ 4 % 2 ^ 64) (w1 / 2 ^ 60) ⊕ hy)) * 2 ^ 64 + (bit_or (w1 * 2
      ^ 4 % 2 ^ 64) (w0 / 2 ^ 60) ⊕ hx ⊕ ly)) * 2 ^ 64 + (w0 * 2 ^ 4 % 2 ^ 64 ⊕ lx)
      ≡ ((((w3 * 2 ^ 64 + w2) * 2 ^ 64 + w1) * 2 ^ 64 + w0) * 2 ^ 4) ⊕ (hx * 2 ^ 64 + lx) ⊕ (hy * 2 ^ 64 + ly) * 2 ^ 64
  comb-words =
      sym (ap (λ (x : ℕ). x ⊕ (hx * 2 ^ 64 + lx) ⊕ (hy * 2 ^ 64 + ly) * 2 ^ 64) (up w0 w1 w2 w3 h0 h1 h2 h3)
      ∙ add-two (w0 * 2 ^ 4 % 2 ^ 64) (bit_or (w1 * 2 ^ 4 % 2 ^ 64) (w0 / 2 ^ 60)) (bit_or (w2 * 2 ^ 4 % 2 ^ 64) (w1 / 2 ^ 60)) (bit_or (w3 * 2 ^ 4 % 2 ^ 64) (w2 / 2 ^ 60)) lx hx ly hy
      (mod-lt (w0 * 2 ^ 4) (pow_pos 64)) (joined-lt w1 w0 h0) (joined-lt w2 w1 h1) bx cx by cy)

  pub comb-fits : (w0 * 2 ^ 4 % 2 ^ 64 ⊕ lx < 2 ^ 64) × (bit_or (w1 * 2 ^ 4 % 2 ^ 64) (w0 / 2 ^ 60) ⊕ hx ⊕ ly < 2 ^ 64) × (bit_or (w2 * 2 ^ 4 % 2 ^ 64) (w1 / 2 ^ 60) ⊕ hy < 2 ^ 64)
  comb-fits = (
    ⊕-lt 64 _ _ (mod-lt (w0 * 2 ^ 4) (pow_pos 64)) bx,
    ⊕-lt 64 _ _ (⊕-lt 64 _ _ (joined-lt w1 w0 h0) cx) by,
    ⊕-lt 64 _ _ (joined-lt w2 w1 h1) cy,
  )

  -- the highest word gains four bits
  pub comb-top : bit_or (w3 * 2 ^ 4 % 2 ^ 64) (w2 / 2 ^ 60) < (w3 + 1) * 16
  comb-top = rw (joined 60 4 refl w3 w2 h2) (omega arith)

-- four words with 60 bits in the highest
pub wide-lt : (w0 w1 w2 w3 : ℕ) → w0 < 2 ^ 64 → w1 < 2 ^ 64 → w2 < 2 ^ 64 → w3 < 2 ^ 60
    → ((w3 * 2 ^ 64 + w2) * 2 ^ 64 + w1) * 2 ^ 64 + w0 < 2 ^ 252
wide-lt w0 w1 w2 w3 h0 h1 h2 h3 =
    append-word 188 ((w3 * 2 ^ 64 + w2) * 2 ^ 64 + w1) w0 (append-word 124 (w3 * 2 ^ 64 + w2) w1 (append-word 60 w3 w2 h3 h2) h1) h0

-- ---- the multiples
pub ⊗-twice : (a k : ℕ) → k < 2 ^ 127 → a ⊗ (2 * k) ≡ times_x (a ⊗ k)
unfolding xpow
⊗-twice a k h = ap (λ (x : ℕ). a ⊗ x) (omega arith) ∙ ⊗-shift 1 127 a k refl h

pub ⊗-odd : (a k : ℕ) → a < 2 ^ 128 → a ⊗ (2 * k + 1) ≡ a ⊗ (2 * k) ⊕ a
⊗-odd a k h =
    let e : 2 * k + 1 ≡ 2 * k ⊕ 1 = ap (λ (x : ℕ). x + 1) (mul_comm 2 k) ∙ sym (add-digit k 1 (lit< tt)) ∙ ap (λ (x : ℕ). x ⊕ 1) (mul_comm k 2) in
    ap (λ (x : ℕ). a ⊗ x) e ∙ ⊗-⊕ a (2 * k) 1 ∙ ap (λ (x : ℕ). a ⊗ (2 * k) ⊕ x) (⊗-one a h)

entry-same : (lo hi : List ℕ) (i l h : ℕ) → i < length lo → i < length hi → pair_at (set lo i l) (set hi i h) i ≡ h * 2 ^ 64 + l
entry-same lo hi i l h p q = rw (get_or-set_same lo i l 0, get_or-set_same hi i h 0)

entry_other : (lo hi : List ℕ) (i k l h : ℕ) → (k ≡ i → ⊥) → pair_at (set lo i l) (set hi i h) k ≡ pair_at lo hi k
entry_other lo hi i k l h n = rw (get_or-set_other lo i k l 0, get_or-set_other hi i k h 0)

pub multiples-start : (a l h : ℕ) (lo hi : List ℕ) → a < 2 ^ 128 → h * 2 ^ 64 + l ≡ a → length lo ≡ 16 → length hi ≡ 16
    → Multiples a (set (set lo 0 0) 1 l) (set (set hi 0 0) 1 h) (2 * 1)
multiples-start a l h lo hi b e p q = record { low_size = simp length-set p; high_size = simp length-set q; multiple = at }
  where
    at : (k : ℕ) → k < 2 → pair_at (set (set lo 0 0) 1 l) (set (set hi 0 0) 1 h) k ≡ a ⊗ k
    at zero _ =
        entry_other (set lo 0 0) (set hi 0 0) 1 0 l h (λ z. omega arith) ∙ entry-same lo hi 0 0 0 (omega arith) (omega arith) ∙ sym (⊗-zero a)
    at (suc zero) _ =
        entry-same (set lo 0 0) (set hi 0 0) 1 l h (rw length-set (omega arith)) (rw length-set (omega arith)) ∙ e ∙ sym (⊗-one a b)
    at (suc (suc k)) x = absurd (omega arith)

module _ (a k : ℕ) (lo hi : List ℕ) (tl th ml mh : ℕ) (b : a < 2 ^ 128) (m : Multiples a lo hi (2 * k)) (pos : 0 < k) (lt : k < 8)
    (twice : th * 2 ^ 64 + tl ≡ times_x (pair_at lo hi k)) (more : mh * 2 ^ 64 + ml ≡ th * 2 ^ 64 + tl ⊕ a) where
  nl : length lo ≡ 16
  nl = m.low_size

  nh : length hi ≡ 16
  nh = m.high_size

  even : th * 2 ^ 64 + tl ≡ a ⊗ (2 * k)
  even = twice ∙ ap times_x (m.multiple k (omega arith)) ∙ sym (⊗-twice a k (lt_of_lt_of_le lt (lit≤ tt)))

  los : List ℕ
  los = set (set lo (2 * k) tl) (2 * k + 1) ml

  his : List ℕ
  his = set (set hi (2 * k) th) (2 * k + 1) mh

  at-odd : pair_at los his (2 * k + 1) ≡ a ⊗ (2 * k + 1)
  unfolding los his
  at-odd =
      entry-same (set lo (2 * k) tl) (set hi (2 * k) th) (2 * k + 1) ml mh (rw length-set (omega (arith, nl))) (rw length-set (omega (arith, nh)))
      ∙ more ∙ ap (λ (x : ℕ). x ⊕ a) even ∙ sym (⊗-odd a k b)

  at-even : pair_at los his (2 * k) ≡ a ⊗ (2 * k)
  unfolding los his
  at-even =
      entry_other (set lo (2 * k) tl) (set hi (2 * k) th) (2 * k + 1) (2 * k) ml mh (λ z. omega arith)
      ∙ entry-same lo hi (2 * k) tl th (omega (arith, nl)) (omega (arith, nh)) ∙ even

  at_old : (j : ℕ) → j < 2 * k → pair_at los his j ≡ a ⊗ j
  unfolding los his
  at_old j h =
      entry_other (set lo (2 * k) tl) (set hi (2 * k) th) (2 * k + 1) j ml mh (λ z. omega arith)
      ∙ entry_other lo hi (2 * k) j tl th (λ z. omega arith) ∙ m.multiple j h

  at-any : (j : ℕ) → j < 2 * (k + 1) → (x y : Bool) → eqb j (2 * k + 1) ≡ x → eqb j (2 * k) ≡ y → pair_at los his j ≡ a ⊗ j
  at-any j h true y e f = rw (eqb-true j (2 * k + 1) e) at-odd
  at-any j h false true e f = rw (eqb-true j (2 * k) f) at-even
  at-any j h false false e f = at_old j (omega (arith, eqb-false j (2 * k + 1) e, eqb-false j (2 * k) f))

  pub multiples-more : Multiples a (set (set lo (2 * k) tl) (2 * k + 1) ml) (set (set hi (2 * k) th) (2 * k + 1) mh) (2 * (k + 1))
  unfolding los his
  multiples-more = record { low_size = simp length-set nl; high_size = simp length-set nh; multiple = λ j h. at-any j h (eqb j (2 * k + 1)) (eqb j (2 * k)) refl refl }

-- the element itself is the multiple 1
pub multiples-self : (a : ℕ) (lo hi : List ℕ) → a < 2 ^ 128 → Multiples a lo hi 16 → pair_at lo hi 1 ≡ a
multiples-self a lo hi b m = m.multiple 1 (lit< tt) ∙ ⊗-one a b

-- ---- the loop: the bits of both words from 4i on are done
pub record Combed (a lo hi acc top i : ℕ) : Type 0 where
  pub small : top < 2 ^ (4 * (16 - i))
  pub product : residue acc ≡ a ⊗ (lo / 2 ^ (4 * i)) ⊕ xpow 64 (a ⊗ (hi / 2 ^ (4 * i)))

xpow-zero : (k : ℕ) → xpow k 0 ≡ 0
xpow-zero k = additive-zero (xpow k) (xpow-⊕ k)

pub combed-start : (a lo hi : ℕ) → lo < 2 ^ 64 → hi < 2 ^ 64 → Combed a lo hi 0 0 16
combed-start a lo hi l h = record {
  small = lit< tt;
  product = residue-small 0 (pow_pos 128) ∙ sym (rw (div-eq_of_lt l, div-eq_of_lt h, ⊗-zero, xpow-zero 64, ⊕-self));
}

-- four more bits of one word
more-bits : (a w i : ℕ) → w < 2 ^ 64 → 0 < i → a ⊗ (w / 2 ^ (4 * (i - 1))) ≡ xpow 4 (a ⊗ (w / 2 ^ (4 * i))) ⊕ a ⊗ (w / 2 ^ (4 * (i - 1)) % 16)
more-bits a w i h pos =
    let v : ℕ = w / 2 ^ (4 * (i - 1)) in
    let s : w / 2 ^ (4 * (i - 1)) / 2 ^ 4 ≡ w / 2 ^ (4 * i) = shr-shr w (4 * (i - 1)) 4 ∙ ap (λ (n : ℕ). w / 2 ^ n) (omega arith) in
    let b : w / 2 ^ (4 * i) < 2 ^ 64 = lt_of_le_of_lt (shr_le w (4 * i)) h in
    ap (λ (x : ℕ). a ⊗ x) (sym (split (w / 2 ^ (4 * (i - 1))) 4) ∙ block-sum (w / 2 ^ (4 * (i - 1)) / 2 ^ 4) (w / 2 ^ (4 * (i - 1)) % 2 ^ 4) 4 (mod-lt _ (pow_pos 4)))
    ∙ ⊗-⊕ a (w / 2 ^ (4 * (i - 1)) / 2 ^ 4 * 2 ^ 4) (w / 2 ^ (4 * (i - 1)) % 2 ^ 4)
    ∙ ap (λ (x : ℕ). x ⊕ a ⊗ (w / 2 ^ (4 * (i - 1)) % 2 ^ 4)) (ap (λ (x : ℕ). a ⊗ (x * 2 ^ 4)) s ∙ ⊗-shift 4 124 a (w / 2 ^ (4 * i)) refl (widen 64 124 b (lit≤ tt)))

-- before a step the highest word has room for four bits more
pub combed-room : (a lo hi acc t i : ℕ) → 0 < i → Combed a lo hi acc t i → t < 2 ^ 60
combed-room a lo hi acc t i pos c = widen (4 * (16 - i)) 60 c.small (omega arith)

regroup : (p q x y : ℕ) → p ⊕ q ⊕ x ⊕ y ≡ p ⊕ x ⊕ (q ⊕ y)
regroup p q x y = simp xor

pub combed-more : (a lo hi acc acc' t t' x y i : ℕ) → lo < 2 ^ 64 → hi < 2 ^ 64 → acc < 2 ^ 252 → 0 < i → i ≤ 16 → Combed a lo hi acc t i
    → t' < (t + 1) * 16 → acc' ≡ acc * 2 ^ 4 ⊕ x ⊕ y * 2 ^ 64 → x ≡ a ⊗ (lo / 2 ^ (4 * (i - 1)) % 16) → y ≡ a ⊗ (hi / 2 ^ (4 * (i - 1)) % 16)
    → Combed a lo hi acc' t' (i - 1)
combed-more a lo hi acc acc' t t' x y i l h b pos le c s e ex ey = record {
  small = rw room (omega (arith, c.small, s));
  product = rw e (residue-⊕ (acc * 2 ^ 4 ⊕ x) (y * 2 ^ 64) ∙ ap₂ ◌⊕◌ (residue-⊕ (acc * 2 ^ 4) x ∙ ap₂ ◌⊕◌ up-four (residue-small x bx)) up-64 ∙ sum);
}
  where
    room : 2 ^ (4 * (16 - (i - 1))) ≡ 2 ^ (4 * (16 - i)) * 2 ^ 4
    room = ap (λ (n : ℕ). 2 ^ n) (omega arith) ∙ pow-add 2 (4 * (16 - i)) 4

    bx : x < 2 ^ 128
    bx = rw ex (⊗-lt a _)

    by : y < 2 ^ 128
    by = rw ey (⊗-lt a _)

    up-four : residue (acc * 2 ^ 4) ≡ xpow 4 (a ⊗ (lo / 2 ^ (4 * i))) ⊕ xpow 64 (xpow 4 (a ⊗ (hi / 2 ^ (4 * i))))
    up-four =
        residue-shift 4 252 acc refl b ∙ ap (xpow 4) c.product
        ∙ xpow-⊕ 4 (a ⊗ (lo / 2 ^ (4 * i))) (xpow 64 (a ⊗ (hi / 2 ^ (4 * i))))
        ∙ ap (λ (z : ℕ). xpow 4 (a ⊗ (lo / 2 ^ (4 * i))) ⊕ z) (xpow-comm 4 64 (a ⊗ (hi / 2 ^ (4 * i))))

    up-64 : residue (y * 2 ^ 64) ≡ xpow 64 y
    up-64 = residue-shift 64 192 y refl (widen 128 192 by (lit≤ tt)) ∙ ap (xpow 64) (residue-small y by)

    sum : xpow 4 (a ⊗ (lo / 2 ^ (4 * i))) ⊕ xpow 64 (xpow 4 (a ⊗ (hi / 2 ^ (4 * i)))) ⊕ x ⊕ xpow 64 y ≡ a ⊗ (lo / 2 ^ (4 * (i - 1))) ⊕ xpow 64 (a ⊗ (hi / 2 ^ (4 * (i - 1))))
    sum =
        rw (more-bits a lo i l pos, more-bits a hi i h pos, ← ex, ← ey, xpow-⊕ 64)
        (regroup (xpow 4 (a ⊗ (lo / 2 ^ (4 * i)))) (xpow 64 (xpow 4 (a ⊗ (hi / 2 ^ (4 * i))))) x (xpow 64 y))

pub combed-end : (a lo hi acc t i : ℕ) → a < 2 ^ 128 → lo < 2 ^ 64 → hi < 2 ^ 64 → i ≤ 0 → Combed a lo hi acc t i → residue acc ≡ a ⊗ (hi * 2 ^ 64 + lo)
combed-end a lo hi acc t zero b l h le c =
    c.product ∙ rw (div-one, div-one)
    (ap (λ (x : ℕ). a ⊗ lo ⊕ x) (sym (⊗-shift 64 64 a hi refl h)) ∙ sym (⊗-⊕ a lo (hi * 2 ^ 64)) ∙ ap (λ (x : ℕ). a ⊗ x) (⊕-comm lo (hi * 2 ^ 64) ∙ sym (block-sum hi lo 64 l)))
combed-end a lo hi acc t (suc i) b l h le c = absurd (omega arith)
