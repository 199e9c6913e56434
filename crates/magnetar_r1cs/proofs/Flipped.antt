-- The walk for the masks: the words that it leaves are the masks of the outputs.
-- Assumes nothing.
use mathlib.Core.Path.{◌≡◌, refl, sym, ◌∙◌}
use mathlib.Core.Bool.{Bool, true, false, cond}
use mathlib.Core.List.{List, [], ◌∷◌, ◌++◌}
use Prim.Native.Nat.{ℕ, zero, suc, ◌+◌, ◌-◌, ◌*◌, ◌%◌, ◌^◌, ◌≤◌, ◌<◌}
use native.Mathlib.Nat.{mod-eq_of_lt, one-mul, mul-one, zero-mul, mul-zero, mul-le-mul_right, suc-mul, pow-suc, le_trans}
use native.Mathlib.Numerals.{add-one}
use native.Mathlib.Omega.{arith}
use lib.Dec.{eqb, ltb, leb}
use lib.Pow.{pow-lt, pow_pos, pow_mono, pow-add, low, high}
use borrow.Author.Tests.{lt-ltb, le-ltb, ltb-true, ltb-false, leb-true}
use lib.ListN.{length, get_or, take, drop, replicate, length-drop, length-replicate, get_or-replicate}
use lib.Seq.{length-take-le}
use Rattle.magnetar_field.specs.Gf128.{◌⊕◌}
use Rattle.magnetar_field.specs.Tabulate.{tabulate}
use Rattle.magnetar_field.proofs.Xor.{bit-cases, ⊕-lt, ⊕-comm, ⊕-digit, top}
use Rattle.magnetar_field.proofs.Tabulation.{tabulate-of, tabulate-ext}
use Rattle.magnetar_layout.specs.Every.{every}
use Rattle.magnetar_layout.proofs.EveryLaws.{both}
use Rattle.magnetar_layout.specs.Tests.{Sized}
use Rattle.magnetar_field.specs.Sizes.{log₂}
use Rattle.magnetar_r1cs.proofs.Points.{log-most}
use Rattle.magnetar_matrix.specs.Sum.{sum_below, blocks}
use Rattle.magnetar_matrix.specs.Matrix.{Entry, sum_over, row_total, share, times_at, is_bit, bit_up_to, bit_valued}
use Rattle.magnetar_matrix.specs.Batch.{assignment}
use Rattle.magnetar_matrix.specs.Packed.{login_words, packed_bit, login_part, unpacked}
use Rattle.magnetar_matrix.specs.Lent.{Lent, entry, entries_of, matrix_of}
use Rattle.magnetar_matrix.specs.Table.{raised}
use Rattle.magnetar_r1cs.specs.Masks.{bits_below, mask_at, masks}
use Rattle.magnetar_r1cs.specs.Flips.{flip_at, flip, flip_total, flip_block}
use Rattle.magnetar_matrix.proofs.Digits.{bit-lt, ⊗-bit}
use Rattle.magnetar_matrix.proofs.LoginParts.{part-is, sum-ext}
use Rattle.magnetar_r1cs.proofs.Split.{z-bit, z-public, assigned, blocks-ext}
use Rattle.magnetar_matrix.proofs.Carried.{raised-tabulate}

-- ---- a bit at its place
place-fits : (b t : ℕ) → b < 2 → t < 64 → b * 2 ^ t < 2 ^ 64
place-fits b t h l = bit-cases (λ (x : ℕ). x * 2 ^ t < 2 ^ 64) (rw zero-mul (pow_pos 64)) (rw one-mul (pow-lt l)) b h

placed-is : (b t : ℕ) → b < 2 → t < 64 → b * 2 ^ t % 2 ^ 64 ≡ b * 2 ^ t
placed-is b t h l = mod-eq_of_lt (place-fits b t h l)

-- ---- the share of an entry
module _ (w : ℕ) (ws : List ℕ) (t c l : ℕ) where
  pub flip-none : l % 2 ≡ 0 → 0 ≡ flip_at w ws t c l
  unfolding flip_at
  flip-none e = rw (e, mul-zero, zero-mul)

  pub flip-bit : t < 64 → (l % 2 ≡ 0 → ⊥) → c < w → packed_bit ws c * 2 ^ t % 2 ^ 64 ≡ flip_at w ws t c l
  unfolding flip_at
  flip-bit s n h = let e : l % 2 ≡ 1 = omega arith in rw (placed-is (packed_bit ws c) t (bit-lt ws c) s, lt-ltb c w h, e, mul-one)

  pub flip_one : t < 64 → (l % 2 ≡ 0 → ⊥) → w ≤ c → 1 * 2 ^ t % 2 ^ 64 ≡ flip_at w ws t c l
  unfolding flip_at
  flip_one s n h = let e : l % 2 ≡ 1 = omega arith in rw (placed-is 1 t (omega arith) s, le-ltb c w h, e, mul-one)

pub flip-entry : (w : ℕ) (ws : List ℕ) (t r c l h : ℕ) → flip_at w ws t c l ≡ flip w ws t (entry r c l h)
unfolding flip flip_at
flip-entry w ws t r c l h = let e : (h * 2 ^ 64 + l) % 2 ≡ l % 2 = omega arith in rw e

-- ---- the logins of one low
module _ (w : ℕ) (ws : List ℕ) (es : List Entry) (d low m : ℕ) where
  pub rows_start : replicate m 0 ≡ tabulate (flip_total w ws es d low 0) m
  unfolding flip_total sum_below
  rows_start = tabulate-of (replicate m 0) (λ r. 0) m 0 (length-replicate m 0) (λ i h. get_or-replicate {A = ℕ} m i 0 0 h)

  pub rows_more : (t k : ℕ) (s s' : List ℕ) → k ≡ login_words w → s ≡ tabulate (flip_total w ws es d low t) m
      → s' ≡ raised (row_total (flip w (take ((t * d + low) * k + k - (t * d + low) * k) (drop ((t * d + low) * k) ws)) t) es) s
      → s' ≡ tabulate (flip_total w ws es d low (t + 1)) m
  unfolding flip_total sum_below
  rows_more t k s s' e a b =
      rw (b, a, part-is w ws (t * d + low) k e, add-one)
      (raised-tabulate (row_total (flip w (login_part w ws (t * d + low)) t) es) (flip_total w ws es d low t) m)

pub login-below : (t d low n q : ℕ) → t < n → low < d → n * d ≡ q → t * d + low < q
login-below t d low n q h l e = let s : suc t * d ≤ n * d = mul-le-mul_right d h in omega (arith, suc-mul t d)

-- ---- each share is that of the product, at its place
cond-lt : (b : Bool) (x : ℕ) → x < 2 → cond b x 0 < 2
cond-lt true x h = h
cond-lt false x h = omega arith

cond-place : (b : Bool) (x p : ℕ) → cond b (x * p) 0 ≡ cond b x 0 * p
cond-place true x p = refl
cond-place false x p = sym (zero-mul p)

module _ (w : ℕ) (ws : List ℕ) where
  -- the assignment (bits, 1) of a login
  abbrev z : List ℕ
  z = tabulate (packed_bit ws) w ++ (1 ∷ [])

  -- its bit at column c
  abbrev bit_or_one : ℕ → ℕ
  bit_or_one c = cond (ltb c w) (packed_bit ws c) 1

  one-lt : (c : ℕ) → bit_or_one c < 2
  one-lt c = go (ltb c w)
    where
      go : (b : Bool) → cond b (packed_bit ws c) 1 < 2
      go true = bit-lt ws c
      go false = omega arith

  z-at : (c : ℕ) → c ≤ w → get_or z c 0 ≡ bit_or_one c
  z-at c h = go (ltb c w) refl
    where
      go : (b : Bool) → ltb c w ≡ b → get_or z c 0 ≡ cond b (packed_bit ws c) 1
      go true t = z-bit w [] ws c (ltb-true c w t)
      go false t =
          let e : c - w ≡ 0 = omega (arith, ltb-false c w t) in
          z-public w [] ws c (ltb-false c w t) ∙ rw e

  share-is : (e : Entry) → bit_up_to w e ≡ true → share z e ≡ bit_or_one e.col * e.value
  unfolding share
  share-is e t =
      let k = both (is_bit e) (leb e.col w) t in
      let v : e.value < 2 = ltb-true e.value 2 k.0 in
      rw (z-at e.col (leb-true e.col w k.1)) (sym (⊗-bit (bit_or_one e.col) e.value (one-lt e.col) (le_trans v (pow_mono {i = 1} {j = 128} (omega arith)))))

  share-lt : (e : Entry) → bit_up_to w e ≡ true → share z e < 2
  share-lt e t =
      let k = both (is_bit e) (leb e.col w) t in
      let v : e.value < 2 = ltb-true e.value 2 k.0 in
      rw (share-is e t) (bit-cases (λ (x : ℕ). x * e.value < 2) (rw zero-mul (omega arith)) (rw one-mul v) (bit_or_one e.col) (one-lt e.col))

  flip_is : (t : ℕ) (e : Entry) → bit_up_to w e ≡ true → flip w ws t e ≡ share z e * 2 ^ t
  unfolding flip flip_at
  flip_is t e p =
      let k = both (is_bit e) (leb e.col w) p in
      let v : e.value % 2 ≡ e.value = mod-eq_of_lt (ltb-true e.value 2 k.0) in
      rw (v, share-is e p)

-- ---- the sum of a row is 0 or 1, and so at its place
row_lt : (g : Entry → ℕ) (p : Entry → Bool) (es : List Entry) (r : ℕ) → every p es ≡ true → ((e : Entry) → p e ≡ true → g e < 2) → row_total g es r < 2
unfolding every row_total sum_over
row_lt g p [] r t h = omega arith
row_lt g p (e ∷ es) r t h =
    let k = both (p e) (every p es) t in
    ⊕-lt 1 (cond (eqb e.row r) (g e) 0) (row_total g es r) (cond-lt (eqb e.row r) (g e) (h e k.0)) (row_lt g p es r k.1 h)

row-place : (f g : Entry → ℕ) (t : ℕ) (p : Entry → Bool) (es : List Entry) (r : ℕ) → every p es ≡ true
    → ((e : Entry) → p e ≡ true → g e < 2) → ((e : Entry) → p e ≡ true → f e ≡ g e * 2 ^ t) → row_total f es r ≡ row_total g es r * 2 ^ t
unfolding every row_total sum_over
row-place f g t p [] r q h i = sym (zero-mul (2 ^ t))
row-place f g t p (e ∷ es) r q h i =
    let k = both (p e) (every p es) q in
    rw (i e k.0, row-place f g t p es r k.1 h i, cond-place (eqb e.row r) (g e) (2 ^ t))
    (sym (⊕-digit (cond (eqb e.row r) (g e) 0) (row_total g es r) (2 ^ t) (cond-lt (eqb e.row r) (g e) (h e k.0)) (row_lt g p es r k.1 h)))

-- ---- bits at their places do not meet
pub bits-lt : (f : ℕ → ℕ) (n : ℕ) → ((t : ℕ) → t < n → f t < 2) → bits_below f n < 2 ^ n
unfolding bits_below
bits-lt f zero h = pow_pos 0
bits-lt f (suc n) h =
    let a : bits_below f n < 2 ^ n = bits-lt f n (λ t l. h t (omega arith)) in
    let b : f n * 2 ^ n ≤ 1 * 2 ^ n = mul-le-mul_right (2 ^ n) (omega (arith, h n (omega arith))) in
    omega (arith, one-mul (2 ^ n), pow-suc 2 n)

bits-sum : (f : ℕ → ℕ) (n : ℕ) → ((t : ℕ) → t < n → f t < 2) → bits_below f n ≡ sum_below n (λ t. f t * 2 ^ t)
unfolding bits_below sum_below
bits-sum f zero h = refl
bits-sum f (suc n) h = rw (← bits-sum f n (λ t l. h t (omega arith))) (apart (bits_below f n) (f n) (bits-lt f n (λ t l. h t (omega arith))))
  where
    apart : (a b : ℕ) → a < 2 ^ n → a + b * 2 ^ n ≡ a ⊕ b * 2 ^ n
    apart a b l =
        let e : a + b * 2 ^ n ≡ b * 2 ^ n + a = omega arith in
        e ∙ (top (b * 2 ^ n + a) n ∙ rw (high b n l, low b n l) (⊕-comm (b * 2 ^ n) a))

-- ---- the masks
module _ (a : Lent) (ws : List ℕ) (q w d n : ℕ) (bits : bit_valued w (matrix_of a) ≡ true) (all : n * d ≡ q) where
  abbrev es : List Entry
  es = entries_of a.row a.col a.lo a.hi

  every-bit : every (bit_up_to w) es ≡ true
  every-bit = unfold bit_valued matrix_of in bits

  output-is : (u r : ℕ) → u < q → times_at (matrix_of a) (assignment (unpacked q w ws) [] u) r ≡ row_total (share (z w (login_part w ws u))) es r
  unfolding times_at matrix_of
  output-is u r h = rw (assigned q w ws [] u h)

  pub output-lt : (u r : ℕ) → u < q → times_at (matrix_of a) (assignment (unpacked q w ws) [] u) r < 2
  output-lt u r h = rw (output-is u r h) (row_lt (share (z w (login_part w ws u))) (bit_up_to w) es r every-bit (share-lt w (login_part w ws u)))

  flips-are : (u t r : ℕ) → u < q → row_total (flip w (login_part w ws u) t) es r ≡ times_at (matrix_of a) (assignment (unpacked q w ws) [] u) r * 2 ^ t
  flips-are u t r h =
      rw (output-is u r h)
      (row-place (flip w (login_part w ws u) t) (share (z w (login_part w ws u))) t (bit_up_to w) es r every-bit
      (share-lt w (login_part w ws u)) (flip_is w (login_part w ws u) t))

  mask_is : (low r : ℕ) → low < d → flip_total w ws es d low n r ≡ mask_at (matrix_of a) (unpacked q w ws) d n low r
  unfolding flip_total mask_at
  mask_is low r h =
      sum-ext n (λ t. row_total (flip w (login_part w ws (t * d + low)) t) es r)
      (λ t. times_at (matrix_of a) (assignment (unpacked q w ws) [] (t * d + low)) r * 2 ^ t)
      (λ t l. flips-are (t * d + low) t r (login-below t d low n q l h all))
      ∙ sym (bits-sum (λ t. times_at (matrix_of a) (assignment (unpacked q w ws) [] (t * d + low)) r) n
      (λ t l. output-lt (t * d + low) r (login-below t d low n q l h all)))

  pub masks-are : blocks (flip_block w ws es d n a.rows) d ≡ masks (matrix_of a) (unpacked q w ws) d n
  unfolding masks flip_block matrix_of
  masks-are =
      blocks-ext (flip_block w ws es d n a.rows) (λ low. tabulate (mask_at (matrix_of a) (unpacked q w ws) d n low) a.rows) d
      (λ low h. tabulate-ext (flip_total w ws es d low n) (mask_at (matrix_of a) (unpacked q w ws) d n low) a.rows (λ r b. mask_is low r h))

-- a block that was lent
pub rows_of : (f : ℕ → ℕ → List ℕ) (s t : List ℕ) (a m low : ℕ) → a + m ≤ length s
    → t ≡ f (length (take (a + m - a) (drop a s))) low → t ≡ f m low
rows_of f s t a m low h e =
    let d : a + m - a ≡ m = omega arith in
    let l : length (take (a + m - a) (drop a s)) ≡ m = rw d (length-take-le m (drop a s) (rw length-drop (omega arith))) in
    rw l at e

-- ---- the numbers 2^v and 2^(s - v), q being 2^s
pub record Powers (q v : ℕ) : Type 0 where
  pub all : 2 ^ v * 2 ^ (log₂ q - v) ≡ q
  pub logins : 2 ^ v ≤ 64
  pub lows : 2 ^ (log₂ q - v) ≤ 4096
  pub small : log₂ q ≤ 16

pub powers-of : (q v : ℕ) → Sized 1 4096 q → v ≤ log₂ q → v ≤ 6 → Powers q v
powers-of q v z h l =
    let e : v + (log₂ q - v) ≡ log₂ q = omega arith in
    let p : 2 ^ (log₂ q - v) ≤ 2 ^ log₂ q = pow_mono {i = log₂ q - v} {j = log₂ q} (omega arith) in
    record {
      all = sym (pow-add 2 v (log₂ q - v)) ∙ (rw e (sym z.power));
      logins = pow_mono {i = v} {j = 6} l;
      lows = le_trans p (rw (← z.power) z.high);
      small = log-most q (le_trans z.high (omega arith)) z.power;
    }

-- the masks in front of the rest of what was lent
pub masks-in-front : (a : Lent) (ws out t : List ℕ) (q w v d n : ℕ) → d ≡ 2 ^ (log₂ q - v) → n ≡ 2 ^ v → Powers q v → bit_valued w (matrix_of a) ≡ true
    → t ≡ blocks (flip_block w ws (entries_of a.row a.col a.lo a.hi) d n a.rows) d
    → t ++ drop (d * a.rows) out ≡ masks (matrix_of a) (unpacked q w ws) (2 ^ (log₂ q - v)) (2 ^ v) ++ drop (2 ^ (log₂ q - v) * a.rows) out
masks-in-front a ws out t q w v d n hd hn p bits e =
    rw (e, hd, hn, masks-are a ws q w (2 ^ (log₂ q - v)) (2 ^ v) bits p.all)
