-- What the guards' refusals leave.
-- Assumes nothing.
use mathlib.Core.Path.{◌≡◌, refl, sym, ap, ◌∙◌}
use mathlib.Core.Bool.{Bool, false}
use mathlib.Core.List.{List, [], ◌∷◌, ◌++◌}
use Prim.Native.Nat.{ℕ, suc, ◌+◌, ◌-◌, ◌*◌, ◌/◌, ◌^◌, ◌≤◌, ◌<◌}
use native.Mathlib.Nat.{two-pow-succ}
use native.Mathlib.Omega.{arith}
use lib.ListN.{length, get_or}
use borrow.Author.Tests.{ltb-false, not-false}
use Rattle.magnetar_field.specs.Sizes.{log₂}
use Rattle.magnetar_field.proofs.Log2.{log₂-pow}
use Rattle.magnetar_hash.specs.declared.transcript.Transcript.{Transcript}
use Rattle.magnetar_layout.specs.Entries.{layout_refusal}
use Rattle.magnetar_layout.specs.Tests.{or_refuse, first_refusal, is_size, column_tests, layout_tests, room_test, most_columns, most_segments, Sized}
use Rattle.magnetar_layout.proofs.FirstRefusal.{first-refusal-clear}
use Rattle.magnetar_layout.proofs.SizeLaws.{not-bad, log-most}
use Rattle.magnetar_layout.proofs.Laid.{sound, each-size}
use Rattle.magnetar_layout.proofs.Readings.{log-le}
use Rattle.magnetar_protocol.specs.RunTests.{counter_tests}
use Rattle.magnetar_layout.proofs.Laid.{even-size, layout-own}
use Rattle.magnetar_layout.proofs.Passing.{passing}
use Rattle.magnetar_prover.proofs.Slots.{part_taken}
use Rattle.magnetar_prover.specs.InScratch.{Locals}
use Rattle.magnetar_prover.specs.Entries.{inner_rounds_refusal}

pub ruleset sizing = (passing, layout-own)

-- ---- what holds where nothing is refused
pub record Sizes (m : ℕ) (ns : List ℕ) : Type 0 where
  pub columns : Sized 2 most_columns m
  pub few : log₂ m ≤ 16
  pub segments : length ns ≤ most_segments
  pub layout : layout_refusal (m / 2) ns ≡ 0

note-good : (n : ℕ) (b : Bool) → b ≡ false → or_refuse n b 0 ≡ 0
unfolding or_refuse
note-good n b e = rw e

pub sizes-of : (m : ℕ) (ns : List ℕ) → first_refusal 0 (column_tests m ++ layout_tests (m / 2) ns) ≡ 0 → Sizes m ns
sizes-of m ns e =
    let k = (first-refusal-clear 0 (column_tests m ++ layout_tests (m / 2) ns) refl e).1 in
    let z : Sized 2 most_columns m = not-bad k.0 in
    record {
      columns = z;
      few = log-most m z.high z.power;
      segments = ltb-false _ _ k.1.1.1.0;
      layout = layout-own m ns (not-false (is_size 2 most_columns m) k.0) ∙ (rw (note-good 1 _ k.0) at e);
    }

pub record InnerFits (m : ℕ) (ns proof draws s : List ℕ) : Type 0 where
  pub sizes : Sizes m ns
  pub drawn : 2 * log₂ m ≤ length draws
  pub sent : 2 * (3 * log₂ m + 1 + length ns) ≤ length proof
  pub scratch : 6 * m ≤ length s

pub inner-fits : (m : ℕ) (ns proof draws s : List ℕ) (t : Transcript) → inner_rounds_refusal m ns proof draws s t ≡ 0 → InnerFits m ns proof draws s
unfolding inner_rounds_refusal
inner-fits m ns proof draws s t e =
    let k = (first-refusal-clear 0 (column_tests m ++ layout_tests (m / 2) ns ++ (counter_tests t.squeeze_ctr ++ (room_test (2 * log₂ m) draws ++ room_test
    (2 * (3 * log₂ m + 1 + length ns)) proof ++ room_test (6 * m) s))) refl e).1 in
    record {
      sizes = sizes-of m ns (first-refusal-good k.0 k.1.0 k.1.1.0 k.1.1.1.0);
      drawn = ltb-false _ _ k.1.1.1.1.1.0;
      sent = ltb-false _ _ k.1.1.1.1.1.1.0;
      scratch = ltb-false _ _ k.1.1.1.1.1.1.1.0;
    }
  where
    first-refusal-good : {a c d f : Bool} → a ≡ false → c ≡ false → d ≡ false → f ≡ false → first_refusal 0 ((1, a) ∷ (8, c) ∷ (9, d) ∷ (10, f) ∷ []) ≡ 0
    first-refusal-good p r t u =
        rw (p, r, t, u, note-good 1 false refl, note-good 8 false refl, note-good 9 false refl, note-good 10 false refl)

-- ---- half the columns
log-double : (m w : ℕ) → 2 * w ≡ m → w ≡ 2 ^ log₂ w → log₂ w < 63 → log₂ m ≡ suc (log₂ w)
log-double m w e p h = let q : m ≡ 2 ^ suc (log₂ w) = omega (arith, two-pow-succ (log₂ w)) in rw q (log₂-pow (suc (log₂ w)) (omega arith))

pub record ValidInner (m w k : ℕ) (ns : List ℕ) : Type 0 where
  pub double : 2 * w ≡ m
  pub some : 0 < w
  pub most : w ≤ 32768
  pub rounds : 0 < k
  pub few : k < 18
  pub power : 2 * w ≡ 2 ^ k
  pub locals : Locals w ns (2 * k - 2)

pub ready : (m : ℕ) (ns : List ℕ) (k : ℕ) → k ≡ log₂ m → Sizes m ns → ValidInner m (m / 2) k ns
ready m ns k e z =
    let d : 2 * (m / 2) ≡ m = even-size m z.columns in
    let o = sound (m / 2) ns z.layout in
    let a : log₂ (m / 2) ≤ 16 = log-most (m / 2) (omega (arith, z.columns.high)) o.power in
    let l : log₂ m ≡ suc (log₂ (m / 2)) = log-double m (m / 2) d o.power (omega (arith, a)) in
    record {
      double = d;
      some = omega (arith, z.columns.low, d);
      most = omega (arith, z.columns.high, d);
      rounds = omega (arith, e, l);
      few = omega (arith, e, z.few);
      power = d ∙ (z.columns.power ∙ ap (λ (j : ℕ). 2 ^ j) (sym e));
      locals = record {
        each = λ i h. let y = each-size (m / 2) ns i o.lengths h in
            let b : log₂ (get_or ns i 0) ≤ log₂ (m / 2) = log-le (get_or ns i 0) (m / 2) y.power o.power y.most in
            record { most = y.most; power = y.power; few = omega (arith, a, b); drawn = omega (arith, b, e, l) };
      };
    }

-- where nothing is refused: the room and the sizes
module _ (m : ℕ) (ns proof draws s : List ℕ) (t : Transcript) (e : 0 ≡ inner_rounds_refusal m ns proof draws s t) where
  pub sent_fits : 2 * (3 * log₂ m + 1 + length ns) ≤ length proof
  sent_fits = (inner-fits m ns proof draws s t (sym e)).sent

  pub drawn_fits : 2 * log₂ m ≤ length draws
  drawn_fits = (inner-fits m ns proof draws s t (sym e)).drawn

  pub scratch_fits : 6 * m ≤ length s
  scratch_fits = (inner-fits m ns proof draws s t (sym e)).scratch

  pub sizes_fit : (m ≤ 65536) × (log₂ m ≤ 16) × (length ns ≤ 64)
  sizes_fit = let z = (inner-fits m ns proof draws s t (sym e)).sizes in (z.columns.high, z.few, z.segments)

pub ruleset fitting = (part_taken, sent_fits, drawn_fits, scratch_fits, sizes_fit)
