-- A mask of columns, changed by runs of columns that lie in one word or are whole words: at the end it has the columns outside.
-- Assumes nothing.
use mathlib.Core.Path.{◌≡◌, refl, sym, ap, ◌∙◌}
use mathlib.Core.Bool.{Bool, true, false, cond, not, ◌&&◌, ◌||◌}
use mathlib.Core.List.{List, ◌++◌}
use Prim.Native.Nat.{ℕ, zero, suc, ◌+◌, ◌-◌, ◌*◌, ◌/◌, ◌%◌, ◌^◌, ◌≤◌, ◌<◌, min}
use native.Mathlib.Nat.{mul-lt-mul_of_pos_right, mul-mod_left, mul_assoc, mod-lt, mod-eq_of_lt, zero-div, zero-mul, le_refl}
use native.Mathlib.Numerals.{add-one}
use native.Mathlib.Omega.{arith}
use lib.Dec.{eqb, ltb, leb}
use lib.Bits.{differ}
use lib.Pow.{pow-add, pow_pos, pow_mono}
use lib.ListN.{length, get_or, take, drop, replicate, length-take}
use lib.Seq.{take_all, take_at, get_or-take}
use borrow.Author.Tests.{eqb-true, eqb-false, ltb-true, ltb-false, leb-true, leb-false, lt-ltb, le-ltb, le-leb, lt-leb}
use Rattle.magnetar_field.specs.Sizes.{log₂}
use Rattle.magnetar_layout.specs.Layout.{offsets, within, outside, LayoutFits}
use Rattle.magnetar_layout.specs.Tests.{or_refuse, column_tests, layout_tests}
use Rattle.magnetar_layout.specs.Entries.{layout_refusal, build_refusal, build_out}
use Rattle.magnetar_layout.proofs.FirstRefusal.{first-refusal-clear}
use Rattle.magnetar_layout.proofs.SizeLaws.{not-bad}
use Rattle.magnetar_layout.proofs.Readings.{build-is}
use Rattle.magnetar_layout.proofs.Laid.{offsets-length, offset-within}
use Rattle.magnetar_layout.proofs.Places.{Placed, none-earlier, within_more}
use Rattle.magnetar_matrix.specs.Packed.{bit_at, packed_bit}
use Rattle.magnetar_matrix.specs.Table.{added_at}
use Rattle.magnetar_matrix.proofs.TableLaws.{added-here, added-there}
use Rattle.magnetar_matrix.proofs.WordBits.{bit_xor, bit-run}
use Rattle.magnetar_relation.specs.Stray.{outside_bit, Masks, AllMarked, flipped_bit, Flipped, InWords}
use Rattle.magnetar_relation.specs.Stray.InWords.{one, whole}

-- ---- tests of the same answer
leb-same : (a b c d : ℕ) → (a ≤ b → c ≤ d) → (c ≤ d → a ≤ b) → leb a b ≡ leb c d
leb-same a b c d f g = go (leb a b) refl
  where
    go : (t : Bool) → leb a b ≡ t → t ≡ leb c d
    go true e = sym (le-leb c d (f (leb-true a b e)))
    go false e = sym (lt-leb c d (not-le (leb-false a b e)))
      where
        not-le : b < a → d < c
        not-le h = step (ltb d c) refl
          where
            step : (t : Bool) → ltb d c ≡ t → d < c
            step true k = ltb-true d c k
            step false k = absurd (omega (arith, h, g (ltb-false d c k)))

ltb-same : (a b c d : ℕ) → (a < b → c < d) → (c < d → a < b) → ltb a b ≡ ltb c d
ltb-same a b c d f g = go (ltb a b) refl
  where
    go : (t : Bool) → ltb a b ≡ t → t ≡ ltb c d
    go true e = sym (lt-ltb c d (f (ltb-true a b e)))
    go false e = step (ltb c d) refl
      where
        step : (t : Bool) → ltb c d ≡ t → false ≡ ltb c d
        step true k = absurd (omega (arith, ltb-false a b e, g (ltb-true c d k)))
        step false k = sym k

-- ---- columns of one word
-- a bit that differs from 1 or 0
flip-bit : (b c : ℕ) (t : Bool) → b < 2 → c ≡ cond t 1 0 → differ b c ≡ cond t (1 - b) b
flip-bit zero c true h e = e
flip-bit zero c false h e = e
flip-bit (suc zero) c true h e = rw e
flip-bit (suc zero) c false h e = rw e
flip-bit (suc (suc b)) c t h e = absurd (omega arith)

-- the run within the word
in-run : (y t i : ℕ) → y % 64 + t ≤ 64 → i / 64 ≡ y / 64
    → (leb (y % 64) (i % 64) && ltb (i % 64) (y % 64 + t)) ≡ (leb y i && ltb i (y + t))
in-run y t i h e =
    rw (
      leb-same (y % 64) (i % 64) y i (λ l. omega (arith, l, e)) (λ l. omega (arith, l, e)),
      ltb-same (i % 64) (y % 64 + t) i (y + t) (λ l. omega (arith, l, e)) (λ l. omega (arith, l, e)),
    )

-- no column of another word
off-run : (y t i : ℕ) → y % 64 + t ≤ 64 → (i / 64 ≡ y / 64 → ⊥) → (leb y i && ltb i (y + t)) ≡ false
off-run y t i h n = go (leb y i) refl
  where
    go : (b : Bool) → leb y i ≡ b → (b && ltb i (y + t)) ≡ false
    go true e = le-ltb i (y + t) (omega (arith, h, n, leb-true y i e))
    go false e = refl

run_fits : (s t : ℕ) → s + t ≤ 64 → (2 ^ t - 1) * 2 ^ s % 2 ^ 64 ≡ (2 ^ t - 1) * 2 ^ s
run_fits s t h =
    let l : (2 ^ t - 1) * 2 ^ s < 2 ^ t * 2 ^ s = mul-lt-mul_of_pos_right (omega (arith, pow_pos t)) (pow_pos s) in
    let m : 2 ^ (t + s) ≤ 2 ^ 64 = pow_mono {i = t + s} {j = 64} (omega arith) in
    mod-eq_of_lt (omega (arith, l, m, pow-add 2 t s))

pub flip-done : (y t : ℕ) (ms : List ℕ) (o v : ℕ) → y % 64 + t ≤ 64 → y / 64 < length ms → o ≡ 2 ^ t - 1 → v ≡ o * 2 ^ (y % 64) % 2 ^ 64
    → Flipped y t ms (added_at ms (y / 64) v)
unfolding packed_bit flipped_bit
flip-done y t ms o v h l eo ev i = go (eqb (i / 64) (y / 64)) refl
  where
    v-is : v ≡ (2 ^ t - 1) * 2 ^ (y % 64)
    v-is = ev ∙ rw eo (run_fits (y % 64) t h)

    go : (b : Bool) → eqb (i / 64) (y / 64) ≡ b
        → bit_at (get_or (added_at ms (y / 64) v) (i / 64) 0) (i % 64)
        ≡ cond (leb y i && ltb i (y + t)) (1 - bit_at (get_or ms (i / 64) 0) (i % 64)) (bit_at (get_or ms (i / 64) 0) (i % 64))
    go true b =
        let e : i / 64 ≡ y / 64 = eqb-true _ _ b in
        let m = get_or ms (y / 64) 0 in
        rw (e, added-here ms (y / 64) v l, bit_xor m v (i % 64))
        (flip-bit (bit_at m (i % 64)) (bit_at v (i % 64)) (leb y i && ltb i (y + t)) (mod-lt (m / 2 ^ (i % 64)) (omega arith))
        (ap (λ (x : ℕ). bit_at x (i % 64)) v-is ∙ rw (bit-run t (y % 64) (i % 64), in-run y t i h e)))
    go false b =
        let n = eqb-false (i / 64) (y / 64) b in
        rw (added-there ms (y / 64) v (i / 64) n, off-run y t i h n)

-- ---- a run, word by word: r columns from y on are left, t at a time
pub data Left (y r t : ℕ) : Type 0 where
  over : r ≡ 0 → Left y r t
  last : r ≡ t → y % 64 + t ≤ 64 → Left y r t
  more : t ≡ 64 → y % 64 ≡ 0 → r % 64 ≡ 0 → Left y r t

pub left-start : (y n t : ℕ) → InWords y n → t ≡ min n 64 → Left y n t
left-start y n t (one h) e = last (omega arith) (omega arith)
left-start y n t (whole h k) e = go (eqb n 0) refl
  where
    go : (b : Bool) → eqb n 0 ≡ b → Left y n t
    go true b = over (eqb-true n 0 b)
    go false b = let z = eqb-false n 0 b in more (omega (arith, e, k, z)) h k

pub left-next : (y r t : ℕ) → 0 < r → Left y r t → Left (y + t) (r - t) t
left-next y r t p (over e) = absurd (omega arith)
left-next y r t p (last e h) = over (omega arith)
left-next y r t p (more e h k) = more e (omega arith) (omega arith)

pub record Fits (y r t : ℕ) : Type 0 where
  pub some : 0 < t
  pub inside : t ≤ r
  pub word : y % 64 + t ≤ 64

pub left-fits : (y r t : ℕ) → 0 < r → Left y r t → Fits y r t
left-fits y r t p (over e) = absurd (omega arith)
left-fits y r t p (last e h) = record { some = omega arith; inside = omega arith; word = h }
left-fits y r t p (more e h k) = record { some = omega arith; inside = omega arith; word = omega arith }

pub flip-none : (o n : ℕ) (ms : List ℕ) → n ≡ 0 → Flipped o n ms ms
unfolding flipped_bit
flip-none o n ms e i = go (leb o i) refl
  where
    go : (b : Bool) → leb o i ≡ b → packed_bit ms i ≡ cond (b && ltb i (o + n)) (1 - packed_bit ms i) (packed_bit ms i)
    go true h = rw (le-ltb i (o + n) (omega (arith, e, leb-true o i h)))
    go false h = refl

pub flip-more : (o y t n : ℕ) (ms ls ks : List ℕ) → o ≤ y → n ≡ y + t - o → Flipped o (y - o) ms ls → Flipped y t ls ks → Flipped o n ms ks
unfolding flipped_bit
flip-more o y t n ms ls ks h e f g i = g i ∙ (ap (λ (b : ℕ). flipped_bit y t i b) (f i) ∙ go (ltb i o) refl (ltb i y) refl)
  where
    b : ℕ
    b = packed_bit ms i

    ends : o + n ≡ y + t
    ends = omega (arith, h, e)

    mid : o + (y - o) ≡ y
    mid = omega (arith, h)

    go : (c : Bool) → ltb i o ≡ c → (d : Bool) → ltb i y ≡ d
        → flipped_bit y t i (flipped_bit o (y - o) i (packed_bit ms i)) ≡ flipped_bit o n i (packed_bit ms i)
    go true c d k = rw (lt-leb o i (ltb-true i o c), lt-leb y i (omega (arith, h, ltb-true i o c)))
    go false c true k =
        rw (
          le-leb o i (ltb-false i o c),
          lt-leb y i (ltb-true i y k),
          mid,
          lt-ltb i y (ltb-true i y k),
          ends,
          lt-ltb i (y + t) (omega (arith, ltb-true i y k)),
        )
    go false c false k =
        rw (le-leb o i (ltb-false i o c), le-leb y i (ltb-false i y k), mid, le-ltb i y (ltb-false i y k), ends)

-- ---- the columns of a segment lie in one word, or are whole words
pub in_words : (w o n e : ℕ) → Placed w o n e → InWords o n
in_words w o n e p = go (log₂ n) p.size.power p.aligned
  where
    large : (k : ℕ) → n ≡ 2 ^ (k + 6) → o / n * n ≡ o → InWords o n
    large k f a =
        let m : n ≡ 2 ^ k * 64 = f ∙ pow-add 2 k 6 in
        let z : n % 64 ≡ 0 = ap (λ (x : ℕ). x % 64) m ∙ mul-mod_left (2 ^ k) 64 in
        let q : o ≡ o / n * 2 ^ k * 64 = sym a ∙ (ap (λ (x : ℕ). o / n * x) m ∙ sym (mul_assoc (o / n) (2 ^ k) 64)) in
        whole (ap (λ (x : ℕ). x % 64) q ∙ mul-mod_left (o / n * 2 ^ k) 64) z

    small : (k : ℕ) → n ≡ k → o / n * n ≡ o → (o / k * k ≡ o → o % 64 + k ≤ 64) → InWords o n
    small k f a h = one (rw f (h (rw f at a)))

    go : (k : ℕ) → n ≡ 2 ^ k → o / n * n ≡ o → InWords o n
    go zero f a = small 1 f a (λ b. omega arith)
    go (suc zero) f a = small 2 f a (λ b. omega (arith, b))
    go (suc (suc zero)) f a = small 4 f a (λ b. omega (arith, b))
    go (suc (suc (suc zero))) f a = small 8 f a (λ b. omega (arith, b))
    go (suc (suc (suc (suc zero)))) f a = small 16 f a (λ b. omega (arith, b))
    go (suc (suc (suc (suc (suc zero))))) f a = small 32 f a (λ b. omega (arith, b))
    go (suc (suc (suc (suc (suc (suc k)))))) f a =
        let s : suc (suc (suc (suc (suc (suc k))))) ≡ k + 6 = omega arith in
        large k (f ∙ ap (λ (x : ℕ). 2 ^ x) s) a

-- ---- the segments are taken out of all w columns, one after the other
-- after i of them
abbrev pub Out : (w : ℕ) → List ℕ → ℕ → List ℕ → Type 0
Out w ns i ms = (y : ℕ) → packed_bit ms y ≡ cond (ltb y w && not (within (take i (offsets ns)) (take i ns) y)) 1 0

module _ (w : ℕ) (ns : List ℕ) (fits : LayoutFits w ns) where
  pub out-start : (ms : List ℕ) → AllMarked w ms → Out w ns 0 ms
  unfolding within
  out-start ms h y = h y ∙ ap (λ (b : Bool). cond b 1 0) (same (ltb y w))
    where
      same : (b : Bool) → b ≡ (b && true)
      same true = refl
      same false = refl

  pub out-more : (i o n : ℕ) (ms ls : List ℕ) → i < length ns → o ≡ get_or (offsets ns) i 0 → n ≡ get_or ns i 0 → Out w ns i ms → Flipped o n ms ls
      → Out w ns (i + 1) ls
  unfolding flipped_bit
  out-more i o n ms ls h eo en out f y =
      f y ∙ rw (out y, add-one, within_more (offsets ns) ns i y (rw (offsets-length ns) h) h, ← eo, ← en)
      (go (leb o y) refl (ltb y (o + n)) refl (within (take i (offsets ns)) (take i ns) y) refl)
    where
      or-false : (b : Bool) → (b || false) ≡ b
      or-false true = refl
      or-false false = refl

      go : (c : Bool) → leb o y ≡ c → (d : Bool) → ltb y (o + n) ≡ d → (v : Bool) → within (take i (offsets ns)) (take i ns) y ≡ v
          → cond (c && d) (1 - cond (ltb y w && not v) 1 0) (cond (ltb y w && not v) 1 0) ≡ cond (ltb y w && not (v || (c && d))) 1 0
      go true c true d v e =
          let z : v ≡ false = sym e ∙ none-earlier w ns i y fits h (omega (arith, eo, leb-true o y c)) in
          let l : y < w = omega (arith, ltb-true y (o + n) d, eo, en, offset-within w ns i fits h) in
          rw (z, lt-ltb y w l)
      go true c false d v e = rw (or-false v)
      go false c d k v e = rw (or-false v)

  pub out-end : (i : ℕ) (ms : List ℕ) → length ns ≤ i → Out w ns i ms → Masks w ns ms
  unfolding outside_bit outside
  out-end i ms h out y = out y ∙ rw (take_all i (offsets ns) (rw (offsets-length ns) h), take_all i ns h)

  pub places-long : (ps : List ℕ) → take (length ns) ps ≡ offsets ns → length ns ≤ length ps
  places-long ps e = omega (arith, length-take (length ns) ps, ap (λ (l : List ℕ). length l) e, offsets-length ns)

  pub place_is : (i : ℕ) (ps : List ℕ) → i < length ns → take (length ns) ps ≡ offsets ns → get_or ps i 0 ≡ get_or (offsets ns) i 0
  place_is i ps h e = sym (get_or-take (length ns) ps i 0 h) ∙ ap (λ (l : List ℕ). get_or l i 0) e

-- ---- all w columns, out of none
pub all-marked : (w : ℕ) (ms ls : List ℕ) → ((y : ℕ) → packed_bit ms y ≡ 0) → Flipped 0 w ms ls → AllMarked w ls
unfolding flipped_bit
all-marked w ms ls z f y = f y ∙ rw (z y, le-leb 0 y (omega arith)) (ap (λ (x : ℕ). cond (ltb y x) 1 0) (omega arith))

pub zero-mask : (n y : ℕ) → packed_bit (replicate n 0) y ≡ 0
unfolding packed_bit
zero-mask n y = rw (zeros n (y / 64)) (ap (λ (v : ℕ). v % 2) (zero-div (2 ^ (y % 64))))
  where
    zeros : (n i : ℕ) → ◌≡◌ {A = ℕ} (get_or (replicate n 0) i 0) 0
    zeros zero i = refl
    zeros (suc n) zero = refl
    zeros (suc n) (suc i) = zeros n i

pub all-in-words : (w : ℕ) (ns : List ℕ) → LayoutFits w ns → 0 < w → InWords 0 w
all-in-words w ns fits p =
    in_words w 0 w w
    (record {
      size = record { least = p; most = le_refl w; power = fits.power };
      aligned = rw (zero-div w) (zero-mul w);
      ends = omega arith;
    })

-- ---- the places of the segments, as `build` writes them
module _ (w : ℕ) (ns : List ℕ) (e : layout_refusal w ns ≡ 0) where
  few : length ns ≤ 64
  unfolding layout_refusal
  few =
      let k = (first-refusal-clear 0 (column_tests (2 * w) ++ layout_tests w ns) refl e).1 in
      ltb-false 64 (length ns) k.1.1.1.0

  pub some-columns : 0 < w
  unfolding layout_refusal
  some-columns =
      let z = not-bad (first-refusal-clear 0 (column_tests (2 * w) ++ layout_tests w ns) refl e).1.0 in
      omega (arith, z.low)

  enough : (n k : ℕ) → k ≤ n → 0 ≡ or_refuse 15 (ltb n k) 0
  unfolding or_refuse
  enough n k h = rw (le-ltb n k h)

  pub built : (ps : List ℕ) → length ps ≡ 64 → take (length ns) (build_out w ns ps) ≡ offsets ns
  built ps h =
      let b : 0 ≡ build_refusal w ns ps = rw (build-is, e) (enough (length ps) (length ns) (rw h few)) in
      rw (← b) (take_at (offsets ns) (drop (length ns) ps) (length ns) (offsets-length ns))
