-- A column is outside exactly where no segment covers it.
-- Assumes nothing.
use mathlib.Core.Path.{◌≡◌, refl, sym, ap, ◌∙◌}
use mathlib.Core.Bool.{Bool, true, false, not, ◌||◌, ◌&&◌, false≢true}
use mathlib.Core.List.{List, [], ◌∷◌, map}
use Prim.Native.Nat.{ℕ, zero, suc, ◌+◌, ◌≤◌, ◌<◌}
use native.Mathlib.Omega.{arith}
use lib.Dec.{ltb, leb}
use lib.ListN.{length, get_or}
use borrow.Author.Tests.{ltb-true, leb-true, lt-ltb, le-leb, not-true}
use Rattle.magnetar_layout.specs.Layout.{next_multiple, offsets_from, offsets, within, outside, OutsideMeans}
use Rattle.magnetar_layout.proofs.EveryLaws.{both}
use Rattle.magnetar_layout.proofs.Laid.{offsets-length}

-- segments of 1 and of 2: the column between them is outside, and so is the one behind them
pub gap : map (outside (1 ∷ 2 ∷ [])) (0 ∷ 1 ∷ 2 ∷ 3 ∷ 4 ∷ []) ≡ false ∷ true ∷ false ∷ false ∷ true ∷ []
unfolding outside within offsets offsets_from next_multiple
gap = refl

-- neither of two
neither : (a b : Bool) → (a || b) ≡ false → (a ≡ false) × (b ≡ false)
neither false b e = (refl, e)
neither true b e = absurd (false≢true (sym e))

covered : (o n y : ℕ) → o ≤ y → y < o + n → (leb o y && ltb y (o + n)) ≡ true
covered o n y h k = rw (le-leb o y h, lt-ltb y (o + n) k)

-- no segment of those with these offsets and lengths has the column y
missed : (os ns : List ℕ) (y : ℕ) → within os ns y ≡ false → (i : ℕ) → i < length os → get_or os i 0 ≤ y → y < get_or os i 0 + get_or ns i 0 → ⊥
unfolding within
missed [] ns y e i h a b = omega arith
missed (o ∷ os) [] y e i h a b = omega arith
missed (o ∷ os) (n ∷ ns) y e zero h a b =
    false≢true (sym (neither (leb o y && ltb y (o + n)) (within os ns y) e).0 ∙ covered o n y a b)
missed (o ∷ os) (n ∷ ns) y e (suc i) h a b =
    missed os ns y (neither (leb o y && ltb y (o + n)) (within os ns y) e).1 i (omega arith) a b

missing : (os ns : List ℕ) (y : ℕ) → length os ≡ length ns
    → ((i : ℕ) → i < length ns → get_or os i 0 ≤ y → y < get_or os i 0 + get_or ns i 0 → ⊥) → within os ns y ≡ false
unfolding within
missing [] ns y e f = refl
missing (o ∷ os) [] y e f = refl
missing (o ∷ os) (n ∷ ns) y e f =
    go (leb o y && ltb y (o + n)) refl (missing os ns y (omega arith) (λ i h a b. f (suc i) (omega arith) a b))
  where
    go : (c : Bool) → (leb o y && ltb y (o + n)) ≡ c → within os ns y ≡ false → (c || within os ns y) ≡ false
    go false h rest = rest
    go true h rest =
        let p = both (leb o y) (ltb y (o + n)) h in absurd (f 0 (omega arith) (leb-true o y p.0) (ltb-true y (o + n) p.1))

-- for every list of lengths, whether it is a layout or not
pub outside-means : (ns : List ℕ) (y : ℕ) → OutsideMeans ns y
unfolding outside
outside-means ns y = record {
  uncovered = λ e i h c. missed (offsets ns) ns y (not-true (within (offsets ns) ns y) e) i (omega (arith, offsets-length ns)) c.0 c.1;
  is-outside = λ f. ap not (missing (offsets ns) ns y (offsets-length ns) (λ i h a b. f i h (a, b)));
}
