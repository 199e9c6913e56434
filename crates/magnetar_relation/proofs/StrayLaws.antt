-- The search for the first stray bit: a login's words against the mask, word by word, and login after login.
-- Assumes nothing.
use mathlib.Core.Path.{◌≡◌, refl, sym, ap, ◌∙◌}
use mathlib.Core.Bool.{Bool, true, false, cond, not, ◌||◌, false≢true}
use mathlib.Core.List.{List, [], ◌++◌}
use Prim.Native.Nat.{ℕ, zero, suc, ◌+◌, ◌-◌, ◌*◌, ◌/◌, ◌%◌, ◌^◌, ◌≤◌, ◌<◌, min}
use native.Mathlib.Nat.{zero-mul, mul-zero, one-mul, zero-div}
use native.Mathlib.Omega.{arith}
use lib.Dec.{eqb, ltb}
use lib.Bits.{bit_and}
use lib.Count.{count_trailing_zeros}
use lib.ListN.{length, get_or, drop, length-take}
use borrow.Author.Tests.{eq-eqb, ne_eqb, ltb-true, ltb-false, lt-ltb, le-ltb, not-false}
use Rattle.std.specs.Prelude.{Option, Result, Ok, Err}
use Rattle.std.specs.Result.{IsErrAnd}
use Rattle.magnetar_field.specs.declared.refusal.Refusal.{Refusal}
use Rattle.magnetar_field.specs.Number.{number, number_of}
use Rattle.magnetar_field.proofs.Handed.{handed}
use Rattle.magnetar_layout.specs.Layout.{outside}
use Rattle.magnetar_layout.specs.Tests.{Tests, first_refusal, is_size, most_columns, size_tests, packed_tests, layout_tests}
use Rattle.magnetar_layout.specs.Entries.{layout_refusal}
use Rattle.magnetar_layout.proofs.Passing.{out, out-front, late, cleared}
use Rattle.magnetar_layout.proofs.Refused.{number-positive}
use Rattle.magnetar_layout.proofs.SizeLaws.{not-bad}
use Rattle.magnetar_layout.proofs.Laid.{layout-own}
use Rattle.magnetar_matrix.specs.Batch.{Batch}
use Rattle.magnetar_matrix.specs.Packed.{bit_at, packed_bit, login_words, login_part, unpacked}
use Rattle.magnetar_matrix.specs.RowCheck.{first_not, in_place, stray_column, stray_login}
use Rattle.magnetar_matrix.proofs.Digits.{bit-missing}
use Rattle.magnetar_matrix.proofs.LoginParts.{bit-unpacked}
use Rattle.magnetar_matrix.proofs.SetBits.{Lowest, lowest, bit_past}
use Rattle.magnetar_matrix.proofs.WordBits.{bit-and}
use Rattle.magnetar_matrix.proofs.FirstRow.{Below, first-ext, first-is, first-end}
use Rattle.magnetar_relation.specs.declared.stray.StrayBit.{StrayBit}
use Rattle.magnetar_relation.specs.Stray.{StrayAnswer, stray_answer, stray_outcome, searched, stray_refusal, outside_bit, Masks, NonePast, apart}
use Rattle.magnetar_relation.specs.Stray.StrayAnswer.{clear, bit}

-- ---- two words
-- two bits have no common one exactly where the lesser is 0
product_is : (a b m : ℕ) → a < 2 → b < 2 → m ≡ min a b → eqb (b * a) 0 ≡ eqb m 0
product_is zero b m h k e = let z : m ≡ 0 = omega (arith, e) in rw (mul-zero b, z)
product_is (suc zero) zero m h k e = let z : m ≡ 0 = omega (arith, e) in rw z
product_is (suc zero) (suc zero) m h k e = let z : m ≡ 1 = omega (arith, e) in rw z
product_is (suc zero) (suc (suc b)) m h k e = absurd (omega arith)
product_is (suc (suc a)) b m h k e = absurd (omega arith)

module _ (ms ws : List ℕ) (k v : ℕ) (ev : v ≡ bit_and (get_or ws k 0) (get_or ms k 0)) where
  -- the common bits of word k are those of the two words' common part
  word-apart : (y : ℕ) → 64 * k ≤ y → y < 64 * k + 64 → apart ms ws y ≡ eqb (bit_at v (y - 64 * k)) 0
  unfolding apart packed_bit
  word-apart y h l =
      let d : y / 64 ≡ k = omega (arith, h, l) in
      let r : y % 64 ≡ y - 64 * k = omega (arith, h, l) in
      let i = y - 64 * k in
      rw (d, r)
      (product_is (bit_at (get_or ws k 0) i) (bit_at (get_or ms k 0) i) (bit_at v i) (bit-of (get_or ws k 0) i) (bit-of (get_or ms k 0) i)
      (ap (λ (n : ℕ). bit_at n i) ev ∙ bit-and (get_or ws k 0) (get_or ms k 0) i))
    where
      bit-of : (n i : ℕ) → bit_at n i < 2
      bit-of n i = omega arith

  -- no common bit: one word more
  pub apart_more : v ≡ 0 → Below (apart ms ws) (64 * k) → Below (apart ms ws) (64 * (k + 1))
  apart_more z b y h = go (ltb y (64 * k)) refl
    where
      go : (t : Bool) → ltb y (64 * k) ≡ t → apart ms ws y ≡ true
      go true t = b y (ltb-true _ _ t)
      go false t = word-apart y (ltb-false _ _ t) (omega arith) ∙ eq-eqb (bit_at v (y - 64 * k)) 0 (rw z (zero_bit (y - 64 * k)))
        where
          zero_bit : (i : ℕ) → bit_at 0 i ≡ 0
          zero_bit i = ap (λ (n : ℕ). n % 2) (zero-div (2 ^ i))

  -- a column that the mask has not
  unmarked : (y : ℕ) → packed_bit ms y ≡ 0 → apart ms ws y ≡ true
  unfolding apart
  unmarked y e = rw (e, zero-mul (packed_bit ws y))

  -- one: the lowest
  module _ (some : v ≡ 0 → ⊥) (small : v < 2 ^ 64) (w : ℕ) (none : NonePast w ms) (b : Below (apart ms ws) (64 * k)) where
    abbrev t : ℕ
    t = count_trailing_zeros 64 v

    low : Lowest v t
    low = lowest 64 v (omega (arith, some)) small

    in-word : t < 64
    in-word = go (ltb t 64) refl
      where
        go : (c : Bool) → ltb t 64 ≡ c → t < 64
        go true c = ltb-true t 64 c
        go false c = absurd (omega (arith, low.set, bit_past v t small (ltb-false t 64 c)))

    abbrev at : ℕ
    at = 64 * k + t

    common : apart ms ws at ≡ false
    common =
        let d : at - 64 * k ≡ t = omega arith in
        word-apart at (omega arith) (omega (arith, in-word)) ∙ rw (d, low.set)

    lower : Below (apart ms ws) at
    lower y h = go (ltb y (64 * k)) refl
      where
        go : (c : Bool) → ltb y (64 * k) ≡ c → apart ms ws y ≡ true
        go true c = b y (ltb-true _ _ c)
        go false c =
            let l = ltb-false y (64 * k) c in
            word-apart y l (omega (arith, in-word, h)) ∙ eq-eqb _ 0 (low.below (y - 64 * k) (omega (arith, h, l)))

    pub first-inside : at < w
    first-inside = go (ltb at w) refl
      where
        go : (c : Bool) → ltb at w ≡ c → at < w
        go true c = ltb-true at w c
        go false c = absurd (false≢true (sym common ∙ unmarked at (none at (ltb-false at w c))))

    pub first-common : at ≡ first_not (apart ms ws) w
    first-common = first-is (apart ms ws) w at first-inside lower common

-- no word has one
pub none-common : (ms ws : List ℕ) (k w : ℕ) → length ws ≤ k → Below (apart ms ws) (64 * k) → w ≡ first_not (apart ms ws) w
unfolding apart
none-common ms ws k w h b = first-end (apart ms ws) w w refl below
  where
    missing : (y : ℕ) → 64 * k ≤ y → apart ms ws y ≡ true
    missing y l = rw (← bit-missing ws y (omega (arith, h, l)), mul-zero (packed_bit ms y))

    below : Below (apart ms ws) w
    below y l = go (ltb y (64 * k)) refl
      where
        go : (c : Bool) → ltb y (64 * k) ≡ c → apart ms ws y ≡ true
        go true c = b y (ltb-true _ _ c)
        go false c = missing y (ltb-false _ _ c)

-- ---- the logins
pub part_length : (w : ℕ) (ws : List ℕ) (u : ℕ) → length (login_part w ws u) ≤ login_words w
unfolding login_part
part_length w ws u = omega (arith, length-take (login_words w) (drop (u * login_words w) ws))

-- none before login u has a stray bit
abbrev pub Clear : (q w : ℕ) → (ns ws : List ℕ) → ℕ → Type 0
Clear q w ns ws u = Below (λ v. eqb (stray_column w ns (unpacked q w ws) v) w) u

module _ (q w : ℕ) (ns ws ms : List ℕ) (mask : Masks w ns ms) where
  abbrev batch : Batch
  batch = unpacked q w ws

  pub none-past : NonePast w ms
  unfolding outside_bit
  none-past y h = mask y ∙ rw (le-ltb y w h)

  -- a bit in place, by the mask
  place_is : (u y : ℕ) → u < q → y < w → in_place ns batch u y ≡ apart ms (login_part w ws u) y
  unfolding in_place apart outside_bit
  place_is u y hu hy = rw (bit-unpacked q w ws u y hu hy, mask y, lt-ltb y w hy) (go (packed_bit (login_part w ws u) y) (outside ns y))
    where
      or-false : (b : Bool) → (b || false) ≡ b
      or-false true = refl
      or-false false = refl

      or-true : (b : Bool) → (b || true) ≡ true
      or-true true = refl
      or-true false = refl

      go : (p : ℕ) (o : Bool) → (eqb p 0 || not o) ≡ eqb (cond o 1 0 * p) 0
      go p true = or-false (eqb p 0) ∙ ap (λ (n : ℕ). eqb n 0) (sym (one-mul p))
      go p false = or-true (eqb p 0) ∙ rw (zero-mul p)

  pub column-is : (u : ℕ) → u < q → stray_column w ns batch u ≡ first_not (apart ms (login_part w ws u)) w
  unfolding stray_column
  column-is u h = first-ext (in_place ns batch u) (apart ms (login_part w ws u)) w (λ y l. place_is u y h l)

  module _ (u y : ℕ) (h : u < q) (e : y ≡ first_not (apart ms (login_part w ws u)) w) where
    column : y ≡ stray_column w ns batch u
    column = e ∙ sym (column-is u h)

    pub login-clear : w ≤ y → y ≤ w → eqb (stray_column w ns batch u) w ≡ true
    login-clear a b = rw (← column) (eq-eqb y w (omega arith))

    pub login-stray : y < w → Clear q w ns ws u → bit u y ≡ searched q w ns batch
    unfolding searched stray_login
    login-stray l c =
        let n : u ≡ stray_login q w ns batch =
        first-is (λ v. eqb (stray_column w ns batch v) w) q u h c (rw (← column) (ne_eqb y w (λ z. omega (arith, l, z)))) in
        rw (← n, ne_eqb u q (λ z. omega (arith, h, z)), ← column)

  pub all-clear : (u : ℕ) → u ≡ q → Clear q w ns ws u → clear ≡ searched q w ns batch
  unfolding searched stray_login
  all-clear u e c =
      let n : q ≡ stray_login q w ns batch = first-end (λ v. eqb (stray_column w ns batch v) w) q u e c in
      rw (← n, eq-eqb q q refl)

-- ---- the entry
module _ (q w : ℕ) (ns ws : List ℕ) where
  abbrev pub sizes : Tests
  sizes = size_tests (2 * w) q ++ packed_tests w q ws

  -- the groups of tests, and what the layout's say by themselves
  groups : stray_refusal q w ns ws ≡ first_refusal 0 (sizes ++ layout_tests w ns)
  unfolding stray_refusal
  groups = refl

  laid : 0 ≡ first_refusal 0 sizes → layout_refusal w ns ≡ first_refusal 0 (layout_tests w ns)
  laid e =
      let c = (cleared sizes refl e).0 in
      let d : 2 * w / 2 ≡ w = omega arith in
      rw d at (layout-own (2 * w) ns (not-false (is_size 2 most_columns (2 * w)) c))

  -- what a `?` hands out
  module _ (r : Result (Option StrayBit) Refusal) (e : Refusal) (h : IsErrAnd r (λ y. y ≡ e)) where
    told : number_of r ≡ stray_refusal q w ns ws → stray_answer r ≡ stray_outcome q w ns ws
    told f = go r (handed r e h) f
      where
        go : (r : Result (Option StrayBit) Refusal) → number_of r ≡ number e → number_of r ≡ stray_refusal q w ns ws → stray_answer r ≡ stray_outcome q w ns ws
        go (Ok b) k f = let p = number-positive e in absurd (omega arith)
        go (Err y) k f = let p = number-positive y in rw (← f, ne_eqb (number y) 0 (λ z. omega arith))

    pub stray-early : number e ≡ first_refusal 0 sizes → stray_answer r ≡ stray_outcome q w ns ws
    stray-early f = told (out-front sizes (layout_tests w ns) r e h f ∙ sym groups)

    pub stray-late : 0 ≡ first_refusal 0 sizes → number e ≡ layout_refusal w ns → stray_answer r ≡ stray_outcome q w ns ws
    stray-late z f = told (late sizes (layout_tests w ns) z (out (layout_tests w ns) [] r e h (f ∙ laid z)) ∙ sym groups)

  -- where nothing is refused
  module _ (z : 0 ≡ first_refusal 0 sizes) where
    pub half-most : w ≤ 32768
    half-most = let k = not-bad (cleared sizes refl z).0 in omega (arith, k.high)

    pub stray-none : 0 ≡ layout_refusal w ns → (a : StrayAnswer) → a ≡ searched q w ns (unpacked q w ws) → a ≡ stray_outcome q w ns ws
    stray-none f a h = let e : 0 ≡ stray_refusal q w ns ws = late sizes (layout_tests w ns) z (f ∙ laid z) ∙ sym groups in rw (← e) h
