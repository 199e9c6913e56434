-- The walk over the set bits of a word, and over the words of a login.
-- Assumes nothing.
use Rattle.std.specs.Prelude.{◌≡◌, ℕ, ◌+◌, ◌-◌, ◌*◌, ◌/◌, ◌%◌, ◌^◌, ◌<◌, ◌≤◌, Bool, true, false, cond, eqb, ltb, leb, ◌⊎◌, List, length, get_or}
use mathlib.Core.Path.{refl, sym, ap, ◌∙◌}
use mathlib.Core.Logic.{inl, inr}
use native.Mathlib.Nat.{zero-mul, one-mul, zero-div, lt_of_le_of_lt, mod-le}
use native.Mathlib.Omega.{arith}
use lib.Bits.{bit_and}
use borrow.Author.Tests.{ltb-true, ltb-false, leb-true, leb-false, lt-ltb, le-ltb, lt-leb, le-leb, eqb-true, eqb-false}
use Rattle.magnetar_field.specs.Gf128.{◌⊕◌}
use Rattle.magnetar_field.proofs.Xor.{⊕-zero, zero-⊕}
use Rattle.magnetar_matrix.specs.Packed.{bit_at, packed_bit}
use Rattle.magnetar_matrix.specs.Table.{added_at, raised}
use Rattle.magnetar_batch.specs.Fold.{word_select, select_at, row_select}
use Rattle.magnetar_matrix.proofs.Digits.{bit-missing}
use Rattle.magnetar_matrix.proofs.TableLaws.{added-length, added-here, added-there, raised_is, raised-ext, raised-twice}
use Rattle.magnetar_matrix.proofs.SetBits.{Lowest, bit_past, bit-low, bit_cut}

-- ---- one word
pub select_in : (word base e y : ℕ) → base ≤ y → select_at word base e y ≡ bit_at word (y - base) * e
unfolding select_at
select_in word base e y h = rw (le-leb base y h)

pub select-before : (word base e y : ℕ) → y < base → select_at word base e y ≡ 0
unfolding select_at
select-before word base e y h = rw (lt-leb base y h)

-- what is left of the word, added to t, gives what the word, added to t₀, gives
pub record Selected (word base e : ℕ) (t₀ t : List ℕ) (left : ℕ) : Type 0 where
  pub size : length t ≡ length t₀
  pub total : (y : ℕ) → y < length t₀ → get_or t y 0 ⊕ select_at left base e y ≡ get_or t₀ y 0 ⊕ select_at word base e y

pub selected-start : (word base e : ℕ) (t : List ℕ) → Selected word base e t t word
selected-start word base e t = record { size = refl; total = λ y h. refl }

same_bit : (left base e b y : ℕ) → Lowest left b → (y ≡ base + b → ⊥) → select_at (bit_and left (left - 1)) base e y ≡ select_at left base e y
same_bit left base e b y l h = go (leb base y) refl
  where
    go : (t : Bool) → leb base y ≡ t → select_at (bit_and left (left - 1)) base e y ≡ select_at left base e y
    go true t =
        let k : base ≤ y = leb-true base y t in
        select_in (bit_and left (left - 1)) base e y k
        ∙ (ap (λ (x : ℕ). x * e) (l.there (y - base) (λ q. h (omega arith))) ∙ sym (select_in left base e y k))
    go false t =
        let k : y < base = leb-false base y t in
        select-before (bit_and left (left - 1)) base e y k ∙ sym (select-before left base e y k)

lowest-bit : (left base e b : ℕ) (a : ℕ) → Lowest left b → a ⊕ e ⊕ select_at (bit_and left (left - 1)) base e (base + b) ≡ a ⊕ select_at left base e (base + b)
lowest-bit left base e b a l =
    let d : base + b - base ≡ b = omega arith in
    let x : select_at (bit_and left (left - 1)) base e (base + b) ≡ 0 =
    select_in (bit_and left (left - 1)) base e (base + b) (omega arith) ∙ rw (d, l.here) (zero-mul e) in
    let y : select_at left base e (base + b) ≡ e = select_in left base e (base + b) (omega arith) ∙ rw (d, l.set) (one-mul e) in
    rw (x, y) (⊕-zero (a ⊕ e))

module _ (word base e : ℕ) (t₀ t : List ℕ) (left : ℕ) (s : Selected word base e t₀ t left) where
  one_bit : (b y : ℕ) → Lowest left b → y < length t
      → get_or (added_at t (base + b) e) y 0 ⊕ select_at (bit_and left (left - 1)) base e y ≡ get_or t y 0 ⊕ select_at left base e y
  one_bit b y l h = go (eqb y (base + b)) refl
    where
      go : (c : Bool) → eqb y (base + b) ≡ c
          → get_or (added_at t (base + b) e) y 0 ⊕ select_at (bit_and left (left - 1)) base e y ≡ get_or t y 0 ⊕ select_at left base e y
      go true c =
          let q : y ≡ base + b = eqb-true y (base + b) c in
          rw (q, added-here t (base + b) e (omega (arith, q, h))) (lowest-bit left base e b (get_or t (base + b) 0) l)
      go false c =
          let n = eqb-false y (base + b) c in
          rw (added-there t (base + b) e y n, same_bit left base e b y l n)

  pub selected-more : (b : ℕ) → Lowest left b → Selected word base e t₀ (added_at t (base + b) e) (bit_and left (left - 1))
  selected-more b l = record {
    size = added-length t (base + b) e ∙ s.size;
    total = λ y h. one_bit b y l (omega (arith, s.size)) ∙ s.total y h;
  }

  pub selected-end : left ≡ 0 → t ≡ raised (select_at word base e) t₀
  selected-end z = raised_is (select_at word base e) t₀ t s.size (λ y h. last y ∙ s.total y h)
    where
      none : (y : ℕ) → select_at 0 base e y ≡ 0
      none y = go (leb base y) refl
        where
          zero_bit : (i : ℕ) → bit_at 0 i ≡ 0
          zero_bit i = bit-zero-of i
            where
              bit-zero-of : (i : ℕ) → bit_at 0 i ≡ 0
              bit-zero-of i = rw zero-div

          go : (t : Bool) → leb base y ≡ t → select_at 0 base e y ≡ 0
          go true t = select_in 0 base e y (leb-true base y t) ∙ rw (zero_bit (y - base)) (zero-mul e)
          go false t = select-before 0 base e y (leb-false base y t)

      last : (y : ℕ) → get_or t y 0 ≡ get_or t y 0 ⊕ select_at left base e y
      last y = rw (z, none y) (sym (⊕-zero (get_or t y 0)))

-- ---- the words of a login
pub row_in : (ws : List ℕ) (w e y : ℕ) → y < w → row_select ws w e y ≡ packed_bit ws y * e
unfolding row_select
row_in ws w e y h = rw (lt-ltb y w h)

pub row_out : (ws : List ℕ) (w e y : ℕ) → w ≤ y → row_select ws w e y ≡ 0
unfolding row_select
row_out ws w e y h = rw (le-ltb y w h)

kept-bit : (word n i : ℕ) → i < n → bit_at (word_select word n) i ≡ bit_at word i
unfolding word_select
kept-bit word n i h = go (ltb n 64)
  where
    go : (b : Bool) → bit_at (cond b (word % 2 ^ n) word) i ≡ bit_at word i
    go true = bit-low word n i h
    go false = refl

lost-bit : (word n i : ℕ) → word < 2 ^ 64 → n ≤ i → bit_at (word_select word n) i ≡ 0
unfolding word_select
lost-bit word n i b h = go (ltb n 64) refl
  where
    go : (c : Bool) → ltb n 64 ≡ c → bit_at (cond c (word % 2 ^ n) word) i ≡ 0
    go true t = bit_cut word n i h
    go false t = bit_past word i b (omega (arith, ltb-false n 64 t))

-- the columns below base have been added
unfoldable pub up_to : List ℕ → ℕ → ℕ → ℕ → ℕ → ℕ
up_to ws w e base y = cond (ltb y base) (row_select ws w e y) 0

up_to-in : (ws : List ℕ) (w e base y : ℕ) → y < base → up_to ws w e base y ≡ row_select ws w e y
unfolding up_to
up_to-in ws w e base y h = rw (lt-ltb y base h)

up_to-out : (ws : List ℕ) (w e base y : ℕ) → base ≤ y → up_to ws w e base y ≡ 0
unfolding up_to
up_to-out ws w e base y h = rw (le-ltb y base h)

module _ (ws : List ℕ) (w e k : ℕ) (fit : get_or ws k 0 < 2 ^ 64) where
  -- the bit of a column of word k
  word-bit : (y : ℕ) → 64 * k ≤ y → y < 64 * k + 64 → packed_bit ws y ≡ bit_at (get_or ws k 0) (y - 64 * k)
  unfolding packed_bit
  word-bit y a b =
      let d : y / 64 ≡ k = omega arith in
      let m : y % 64 ≡ y - 64 * k = omega arith in
      rw (d, m)

  within_word : (y : ℕ) → 64 * k < w → 64 * k ≤ y → y < 64 * k + 64
      → select_at (word_select (get_or ws k 0) (w - 64 * k)) (64 * k) e y ≡ row_select ws w e y
  within_word y lt a b = go (ltb y w) refl
    where
      go : (c : Bool) → ltb y w ≡ c → select_at (word_select (get_or ws k 0) (w - 64 * k)) (64 * k) e y ≡ row_select ws w e y
      go true c =
          let h : y < w = ltb-true y w c in
          select_in (word_select (get_or ws k 0) (w - 64 * k)) (64 * k) e y a
          ∙ (ap (λ (x : ℕ). x * e) (kept-bit (get_or ws k 0) (w - 64 * k) (y - 64 * k) (omega arith) ∙ sym (word-bit y a b)) ∙ sym (row_in ws w e y h))
      go false c =
          let h : w ≤ y = ltb-false y w c in
          select_in (word_select (get_or ws k 0) (w - 64 * k)) (64 * k) e y a
          ∙ (rw (lost-bit (get_or ws k 0) (w - 64 * k) (y - 64 * k) fit (omega arith)) (zero-mul e) ∙ sym (row_out ws w e y h))

  past_word : (y : ℕ) → 64 * k + 64 ≤ y → select_at (word_select (get_or ws k 0) (w - 64 * k)) (64 * k) e y ≡ 0
  past_word y a =
      select_in (word_select (get_or ws k 0) (w - 64 * k)) (64 * k) e y (omega arith) ∙ rw far (zero-mul e)
    where
      far : bit_at (word_select (get_or ws k 0) (w - 64 * k)) (y - 64 * k) ≡ 0
      far = gone (w - 64 * k) (y - 64 * k) (omega arith)
        where
          gone : (n i : ℕ) → 64 ≤ i → bit_at (word_select (get_or ws k 0) n) i ≡ 0
          gone n i h = unfold word_select in go (ltb n 64)
            where
              go : (c : Bool) → bit_at (cond c (get_or ws k 0 % 2 ^ n) (get_or ws k 0)) i ≡ 0
              go true = bit_past (get_or ws k 0 % 2 ^ n) i (lt_of_le_of_lt (mod-le (get_or ws k 0) (2 ^ n)) fit) h
              go false = bit_past (get_or ws k 0) i fit h

  one_word : (y : ℕ) → 64 * k < w → up_to ws w e (64 * k) y ⊕ select_at (word_select (get_or ws k 0) (w - 64 * k)) (64 * k) e y ≡ up_to ws w e (64 * k + 64) y
  one_word y lt = go (ltb y (64 * k)) refl (ltb y (64 * k + 64)) refl
    where
      go : (a : Bool) → ltb y (64 * k) ≡ a → (b : Bool) → ltb y (64 * k + 64) ≡ b
          → up_to ws w e (64 * k) y ⊕ select_at (word_select (get_or ws k 0) (w - 64 * k)) (64 * k) e y ≡ up_to ws w e (64 * k + 64) y
      go true a b t =
          let h : y < 64 * k = ltb-true y (64 * k) a in
          rw (
            up_to-in ws w e (64 * k) y h,
            up_to-in ws w e (64 * k + 64) y (omega arith),
            select-before (word_select (get_or ws k 0) (w - 64 * k)) (64 * k) e y h,
          )
          (⊕-zero (row_select ws w e y))
      go false a true t =
          let h : 64 * k ≤ y = ltb-false y (64 * k) a in
          let g : y < 64 * k + 64 = ltb-true y (64 * k + 64) t in
          rw (up_to-out ws w e (64 * k) y h, up_to-in ws w e (64 * k + 64) y g, within_word y lt h g) (zero-⊕ (row_select ws w e y))
      go false a false t =
          let h : 64 * k ≤ y = ltb-false y (64 * k) a in
          let g : 64 * k + 64 ≤ y = ltb-false y (64 * k + 64) t in
          rw (up_to-out ws w e (64 * k) y h, up_to-out ws w e (64 * k + 64) y g, past_word y g) (zero-⊕ 0)

pub columns-start : (ws : List ℕ) (w e : ℕ) (t : List ℕ) → t ≡ raised (up_to ws w e 0) t
columns-start ws w e t =
    raised_is (up_to ws w e 0) t t refl (λ y h. sym (rw (up_to-out ws w e 0 y (omega arith)) (⊕-zero (get_or t y 0))))

pub columns-more : (ws : List ℕ) (w e k : ℕ) (t₀ t t' : List ℕ) → get_or ws k 0 < 2 ^ 64 → 64 * k < w → t ≡ raised (up_to ws w e (64 * k)) t₀
    → t' ≡ raised (select_at (word_select (get_or ws k 0) (w - 64 * k)) (64 * k) e) t → t' ≡ raised (up_to ws w e (64 * (k + 1))) t₀
columns-more ws w e k t₀ t t' fit lt a b =
    let d : 64 * (k + 1) ≡ 64 * k + 64 = omega arith in
    rw d (b ∙ (rw a (raised-twice (up_to ws w e (64 * k)) (select_at (word_select (get_or ws k 0) (w - 64 * k)) (64 * k) e) t₀)
    ∙ raised-ext _ (up_to ws w e (64 * k + 64)) t₀ (λ y. one_word ws w e k fit y lt)))

-- all columns below w are among them
pub columns-end : (ws : List ℕ) (w e base : ℕ) (t₀ t : List ℕ) → (w ≤ base) ⊎ (64 * length ws ≤ base) → t ≡ raised (up_to ws w e base) t₀
    → t ≡ raised (row_select ws w e) t₀
columns-end ws w e base t₀ t h a = a ∙ raised-ext (up_to ws w e base) (row_select ws w e) t₀ (λ y. all y (ltb y base) refl)
  where
    rest : (y : ℕ) → base ≤ y → (w ≤ base) ⊎ (64 * length ws ≤ base) → row_select ws w e y ≡ 0
    rest y l (inl q) = row_out ws w e y (omega arith)
    rest y l (inr q) = go (ltb y w) refl
      where
        go : (c : Bool) → ltb y w ≡ c → row_select ws w e y ≡ 0
        go true c = row_in ws w e y (ltb-true y w c) ∙ rw (← bit-missing ws y (omega arith)) (zero-mul e)
        go false c = row_out ws w e y (ltb-false y w c)

    all : (y : ℕ) (c : Bool) → ltb y base ≡ c → up_to ws w e base y ≡ row_select ws w e y
    all y true c = up_to-in ws w e base y (ltb-true y base c)
    all y false c = let l : base ≤ y = ltb-false y base c in up_to-out ws w e base y l ∙ sym (rest y l h)
