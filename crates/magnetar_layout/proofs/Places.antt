-- Where the segments of a layout lie: each at a multiple of its length, one behind the other, within the columns.
-- Assumes nothing.
use mathlib.Core.Path.{◌≡◌, refl, ap}
use mathlib.Core.Bool.{Bool, true, false, ◌&&◌, ◌||◌}
use mathlib.Core.List.{List, [], ◌∷◌}
use Prim.Native.Nat.{ℕ, zero, suc, ◌+◌, ◌-◌, ◌*◌, ◌/◌, ◌≤◌, ◌<◌}
use native.Mathlib.Nat.{mul-div_cancel}
use native.Mathlib.Omega.{arith}
use borrow.Author.Tests.{lt-leb, le-ltb}
use lib.Dec.{ltb, leb}
use lib.ListN.{length, get_or, take}
use Rattle.magnetar_layout.specs.Every.{every}
use Rattle.magnetar_layout.specs.Layout.{next_multiple, offsets_from, end_from, offsets, layout_end, is_length, LayoutFits, within}
use Rattle.magnetar_layout.proofs.EveryLaws.{every-tail}
use Rattle.magnetar_layout.proofs.Laid.{Size, each-size, next-least, end-least}

-- ---- one length, one place
pub first-length : (w n : ℕ) (ns : List ℕ) → every (is_length w) (n ∷ ns) ≡ true → Size w n × (every (is_length w) ns ≡ true)
first-length w n ns e = (each-size w (n ∷ ns) 0 e (omega arith), every-tail (is_length w) n ns e)

pub next-aligned : (c n : ℕ) → 0 < n → next_multiple c n / n * n ≡ next_multiple c n
unfolding next_multiple
next-aligned c n pos = ap (λ (k : ℕ). k * n) (mul-div_cancel ((c + (n - 1)) / n) pos)

-- ---- all of them
-- segment i is at a multiple of its length and ends before the layout does
pub record Placed (w o n e : ℕ) : Type 0 where
  pub size : Size w n
  pub aligned : o / n * n ≡ o
  pub ends : o + n ≤ e

placed-from : (w c : ℕ) (ns : List ℕ) (i : ℕ) → every (is_length w) ns ≡ true → i < length ns
    → Placed w (get_or (offsets_from c ns) i 0) (get_or ns i 0) (end_from c ns)
unfolding offsets_from end_from
placed-from w c [] i e h = absurd (omega arith)
placed-from w c (n ∷ ns) zero e h =
    let p = first-length w n ns e in
    record { size = p.0; aligned = next-aligned c n p.0.least; ends = end-least w (next_multiple c n + n) ns p.1 }
placed-from w c (n ∷ ns) (suc i) e h = placed-from w (next_multiple c n + n) ns i (first-length w n ns e).1 (omega arith)

pub placed : (w : ℕ) (ns : List ℕ) (i : ℕ) → LayoutFits w ns → i < length ns → Placed w (get_or (offsets ns) i 0) (get_or ns i 0) w
unfolding offsets layout_end
placed w ns i s h =
    let p = placed-from w 0 ns i s.lengths h in
    record { size = p.size; aligned = p.aligned; ends = omega (arith, p.ends, s.ends) }

-- ---- columns
-- no segment from c on holds a column below c
pub none_below : (w c : ℕ) (ns : List ℕ) (y : ℕ) → every (is_length w) ns ≡ true → y < c → within (offsets_from c ns) ns y ≡ false
unfolding within offsets_from
none_below w c [] y e h = refl
none_below w c (n ∷ ns) y e h =
    let p = first-length w n ns e in
    let l : c ≤ next_multiple c n = next-least c n p.0.least in
    later (next_multiple c n) y (ltb y (next_multiple c n + n)) (within (offsets_from (next_multiple c n + n) ns) ns y) (omega (arith, l))
    (none_below w (next_multiple c n + n) ns y p.1 (omega (arith, l)))
  where
    later : (o y : ℕ) (t v : Bool) → y < o → v ≡ false → ((leb o y && t) || v) ≡ false
    later o y t v h e = rw (lt-leb o y h, e)

-- the first segment from c on starts at c or later, and so does each other
pub offset-least : (w c : ℕ) (ns : List ℕ) (i : ℕ) → every (is_length w) ns ≡ true → i < length ns → c ≤ get_or (offsets_from c ns) i 0
unfolding offsets_from
offset-least w c [] i e h = absurd (omega arith)
offset-least w c (n ∷ ns) zero e h = next-least c n (first-length w n ns e).0.least
offset-least w c (n ∷ ns) (suc i) e h =
    let p = first-length w n ns e in
    omega (arith, next-least c n p.0.least, offset-least w (next_multiple c n + n) ns i p.1 (omega arith))

-- no earlier segment holds a column at the offset of segment i or later
earlier-from : (w c : ℕ) (ns : List ℕ) (i y : ℕ) → every (is_length w) ns ≡ true → i < length ns → get_or (offsets_from c ns) i 0 ≤ y
    → within (take i (offsets_from c ns)) (take i ns) y ≡ false
unfolding offsets_from within
earlier-from w c [] i y e h l = absurd (omega arith)
earlier-from w c (n ∷ ns) zero y e h l = refl
earlier-from w c (n ∷ ns) (suc i) y e h l =
    let p = first-length w n ns e in
    let o = next_multiple c n in
    passed o n y (within (take i (offsets_from (o + n) ns)) (take i ns) y) (omega (arith, l, offset-least w (o + n) ns i p.1 (omega arith)))
    (earlier-from w (o + n) ns i y p.1 (omega arith) l)
  where
    passed : (o n y : ℕ) (v : Bool) → o + n ≤ y → v ≡ false → ((leb o y && ltb y (o + n)) || v) ≡ false
    passed o n y v h e = go (leb o y)
      where
        go : (t : Bool) → ((t && ltb y (o + n)) || v) ≡ false
        go true = rw (le-ltb y (o + n) h, e)
        go false = e

pub none-earlier : (w : ℕ) (ns : List ℕ) (i y : ℕ) → LayoutFits w ns → i < length ns → get_or (offsets ns) i 0 ≤ y
    → within (take i (offsets ns)) (take i ns) y ≡ false
unfolding offsets
none-earlier w ns i y s h l = earlier-from w 0 ns i y s.lengths h l

-- one segment more
pub within_more : (os ns : List ℕ) (i y : ℕ) → i < length os → i < length ns
    → within (take (suc i) os) (take (suc i) ns) y
    ≡ (within (take i os) (take i ns) y || (leb (get_or os i 0) y && ltb y (get_or os i 0 + get_or ns i 0)))
unfolding within
within_more [] ns i y h l = absurd (omega arith)
within_more (o ∷ os) [] i y h l = absurd (omega arith)
within_more (o ∷ os) (n ∷ ns) zero y h l = or-false (leb o y && ltb y (o + n))
  where
    or-false : (b : Bool) → (b || false) ≡ b
    or-false true = refl
    or-false false = refl
within_more (o ∷ os) (n ∷ ns) (suc i) y h l =
    or_later (leb o y && ltb y (o + n)) (within (take i os) (take i ns) y) _ _ (within_more os ns i y (omega arith) (omega arith))
  where
    or_later : (a b c d : Bool) → d ≡ (b || c) → (a || d) ≡ ((a || b) || c)
    or_later true b c d e = refl
    or_later false b c d e = e
