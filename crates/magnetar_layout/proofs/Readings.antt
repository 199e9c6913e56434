-- The outcomes of the readings of a layout, and of a segment of a folded vector.
-- Assumes nothing.
use mathlib.Core.Path.{◌≡◌, refl}
use mathlib.Core.Bool.{not}
use mathlib.Core.List.{List, []}
use Prim.Native.Nat.{ℕ, suc, ◌≤◌, ◌<◌, ◌*◌, ◌^◌}
use native.Mathlib.Nat.{lt_of_not-le, le_of_suc-le-suc, pow-suc}
use native.Mathlib.Omega.{arith}
use lib.Pow.{pow_mono, pow_pos}
use lib.Dec.{eqb, ltb}
use lib.ListN.{length, get_or, take, drop}
use borrow.Author.Tests.{eq-eqb, ne_eqb, lt-ltb, le-ltb}
use Rattle.std.specs.Prelude.{Some, None, Ok, Err}
use Rattle.magnetar_field.specs.declared.refusal.Refusal.{Refusal}
use Rattle.magnetar_field.specs.Number.{number}
use Rattle.magnetar_field.specs.Sizes.{log₂}
use Rattle.magnetar_field.proofs.Handed.{handed}
use Rattle.magnetar_layout.specs.Layout.{offset}
use Rattle.magnetar_layout.specs.Tests.{or_refuse}
use Rattle.magnetar_layout.proofs.FirstRefusal.{note-kept}
use Rattle.magnetar_layout.proofs.Refused.{number-positive}
use Rattle.magnetar_layout.specs.Entries.{layout_refusal, read, read_of, segment_refusal, segment_part, build_refusal}

module _ (w : ℕ) (ns : List ℕ) (i v : ℕ) where
  pub read-refused : (r : Refusal) → number r ≡ layout_refusal w ns → read (Err r) ≡ read_of w ns i v
  read-refused r e = let p = number-positive r in rw (← e, ne_eqb (number r) 0 (λ h. omega arith))

  module _ (none : 0 ≡ layout_refusal w ns) where
    pub read-some : (n : ℕ) → i < length ns → n ≡ v → read (Ok (Some n)) ≡ read_of w ns i v
    read-some n h f = rw (← none, lt-ltb i (length ns) h, f)

    pub read-none : length ns ≤ i → read (Ok None) ≡ read_of w ns i v
    read-none h = rw (← none, le-ltb i (length ns) h)

-- ---- the logarithm of a length is at most that of the columns
pub log-le : (a b : ℕ) → a ≡ 2 ^ log₂ a → b ≡ 2 ^ log₂ b → a ≤ b → log₂ a ≤ log₂ b
log-le a b ea eb h = le_of_suc-le-suc (lt_of_not-le (λ l. small (log₂ a) (log₂ b) l (rw (← ea, ← eb) h)))
  where
    small : (i j : ℕ) → suc j ≤ i → 2 ^ i ≤ 2 ^ j → ⊥
    small i j l h = omega (arith, pow_mono {i = suc j} {j = i} l, pow-suc 2 j, pow_pos j)

-- ---- a segment of the folded words v
module _ (w : ℕ) (ns : List ℕ) (i : ℕ) (v : List ℕ) where
  -- 11 after the refusals of the layout
  refusal-is : segment_refusal w ns v ≡ or_refuse 11 (not (eqb (length v) (2 * w))) (layout_refusal w ns)
  unfolding segment_refusal layout_refusal
  refusal-is = refl

  pub part-refused : (layout_refusal w ns ≡ 0 → ⊥) → [] ≡ segment_part w ns i v
  unfolding segment_part
  part-refused h =
      rw (
        refusal-is,
        note-kept 11 (not (eqb (length v) (2 * w))) (layout_refusal w ns) h,
        ne_eqb (layout_refusal w ns) 0 h,
      )

  module _ (none : 0 ≡ layout_refusal w ns) where
    pub part-other : (length v ≡ 2 * w → ⊥) → [] ≡ segment_part w ns i v
    unfolding segment_part or_refuse
    part-other h = rw (refusal-is, ← none, ne_eqb (length v) (2 * w) h)

    module _ (same : length v ≡ 2 * w) where
      pub part-missing : length ns ≤ i → [] ≡ segment_part w ns i v
      unfolding segment_part or_refuse
      part-missing h = rw (refusal-is, ← none, eq-eqb (length v) (2 * w) same, le-ltb i (length ns) h)

      pub part-is : i < length ns → take (2 * get_or ns i 0) (drop (2 * offset ns i) v) ≡ segment_part w ns i v
      unfolding segment_part or_refuse
      part-is h = rw (refusal-is, ← none, eq-eqb (length v) (2 * w) same, lt-ltb i (length ns) h)

-- ---- the refusal of `build`: that of the layout, then the room
pub build-is : (w : ℕ) (ns out : List ℕ) → build_refusal w ns out ≡ or_refuse 15 (ltb (length out) (length ns)) (layout_refusal w ns)
unfolding layout_refusal build_refusal
build-is w ns out = refl

pub ruleset building = (handed, number-positive, build-is)
