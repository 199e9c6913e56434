-- What the guard of the outer rounds leaves.
-- Assumes nothing.
use mathlib.Core.Path.{◌≡◌, refl, sym, ap, ap₂, ◌∙◌}
use mathlib.Core.List.{List, ◌++◌}
use Prim.Native.Nat.{ℕ, ◌+◌, ◌*◌, ◌^◌, ◌≤◌, ◌<◌}
use Prim.{⊥}
use native.Mathlib.Nat.{lt_of_not-le}
use native.Mathlib.Omega.{arith}
use lib.ListN.{length}
use lib.Pow.{pow_mono, pow-add}
use borrow.Author.Tests.{ltb-false}
use Rattle.magnetar_field.specs.Sizes.{log₂}
use Rattle.magnetar_hash.specs.declared.transcript.Transcript.{Transcript}
use Rattle.magnetar_layout.specs.Tests.{Tests, first_refusal, room_test, Sized}
use Rattle.magnetar_layout.proofs.FirstRefusal.{first-refusal-clear}
use Rattle.magnetar_layout.proofs.SizeLaws.{not-bad, log-most}
use Rattle.magnetar_prover.specs.Whole.{Blocks}
use Rattle.magnetar_prover.proofs.Slots.{part_taken}
use Rattle.magnetar_protocol.specs.RunTests.{counter_tests}
use Rattle.magnetar_prover.specs.Entries.{count_tests, total_tests, outer_drawn, outer_sent, block_words, outer_rounds_refusal}

pub record Counts (q rb rf : ℕ) : Type 0 where
  pub logins : Sized 1 4096 q
  pub bin : Sized 1 65536 rb
  pub fld : Sized 1 65536 rf

-- all tests of the sizes
pub record Totals (q rb rf : ℕ) : Type 0 where
  pub counts : Counts q rb rf
  pub bin : q * rb ≤ 1048576
  pub fld : q * rf ≤ 1048576

pub totals-of : (q rb rf : ℕ) → 0 ≡ first_refusal 0 (count_tests q rb rf ++ total_tests q rb rf) → Totals q rb rf
totals-of q rb rf e =
    let k = (first-refusal-clear 0 (count_tests q rb rf ++ total_tests q rb rf) refl (sym e)).1 in
    record {
      counts = record { logins = not-bad k.0; bin = not-bad k.1.0; fld = not-bad k.1.1.0 };
      bin = ltb-false _ _ k.1.1.1.0;
      fld = ltb-false _ _ k.1.1.1.1.0;
    }

pub record OuterFits (q rb rf : ℕ) (proof draws s : List ℕ) : Type 0 where
  pub totals : Totals q rb rf
  pub drawn : 2 * outer_drawn (log₂ q) (log₂ rb) (log₂ rf) ≤ length draws
  pub sent : 2 * outer_sent (log₂ q) (log₂ rb) (log₂ rf) ≤ length proof
  pub scratch : block_words q rb rf ≤ length s

pub outer-fits : (q rb rf : ℕ) (proof draws s : List ℕ) (t : Transcript) → outer_rounds_refusal q rb rf proof draws s t ≡ 0 → OuterFits q rb rf proof draws s
unfolding outer_rounds_refusal
outer-fits q rb rf proof draws s t e =
    let k = (first-refusal-clear 0 (count_tests q rb rf ++ total_tests q rb rf ++ (counter_tests t.squeeze_ctr
    ++ (room_test (2 * outer_drawn (log₂ q) (log₂ rb) (log₂ rf))
    draws ++ room_test (2 * outer_sent (log₂ q) (log₂ rb) (log₂ rf)) proof ++ room_test (block_words q rb rf) s))) refl e).1 in
    record {
      totals = record {
        counts = record { logins = not-bad k.0; bin = not-bad k.1.0; fld = not-bad k.1.1.0 };
        bin = ltb-false _ _ k.1.1.1.0;
        fld = ltb-false _ _ k.1.1.1.1.0;
      };
      drawn = ltb-false _ _ k.1.1.1.1.1.1.0;
      sent = ltb-false _ _ k.1.1.1.1.1.1.1.0;
      scratch = ltb-false _ _ k.1.1.1.1.1.1.1.1.0;
    }

-- the tests of the sizes, and those behind them
abbrev pub of_totals : (q rb rf : ℕ) → Tests
of_totals q rb rf = count_tests q rb rf ++ total_tests q rb rf

abbrev pub of_room : (q rb rf : ℕ) (proof draws s : List ℕ) → Transcript → Tests
of_room q rb rf proof draws s t =
    counter_tests t.squeeze_ctr
    ++ (room_test (2 * outer_drawn (log₂ q) (log₂ rb) (log₂ rf)) draws ++ room_test (2 * outer_sent (log₂ q) (log₂ rb) (log₂ rf)) proof
    ++ room_test (block_words q rb rf) s)

-- the logarithms
pub logins-few : {q rb rf : ℕ} → Counts q rb rf → log₂ q < 64
logins-few {q} z = let h = log-most q (omega (arith, z.logins.high)) z.logins.power in omega (arith, h)

pub bin_few : {q rb rf : ℕ} → Counts q rb rf → log₂ rb < 64
bin_few {q} {rb} z = let h = log-most rb z.bin.high z.bin.power in omega (arith, h)

pub fld_few : {q rb rf : ℕ} → Counts q rb rf → log₂ rf < 64
fld_few {q} {rb} {rf} z = let h = log-most rf z.fld.high z.fld.power in omega (arith, h)

-- where nothing is refused: the room, the sizes and their logarithms
module _ (q rb rf : ℕ) (proof draws s : List ℕ) (t : Transcript) (e : 0 ≡ outer_rounds_refusal q rb rf proof draws s t) where
  pub sent_fits : 2 * outer_sent (log₂ q) (log₂ rb) (log₂ rf) ≤ length proof
  sent_fits = (outer-fits q rb rf proof draws s t (sym e)).sent

  pub drawn_fits : 2 * outer_drawn (log₂ q) (log₂ rb) (log₂ rf) ≤ length draws
  drawn_fits = (outer-fits q rb rf proof draws s t (sym e)).drawn

  pub scratch_fits : block_words q rb rf ≤ length s
  scratch_fits = (outer-fits q rb rf proof draws s t (sym e)).scratch

  pub totals_fit : (q * rb ≤ 1048576) × (q * rf ≤ 1048576)
  totals_fit = let z = (outer-fits q rb rf proof draws s t (sym e)).totals in (z.bin, z.fld)

  pub logs_fit : (log₂ q < 64) × (log₂ rb < 64) × (log₂ rf < 64)
  logs_fit = let z = (outer-fits q rb rf proof draws s t (sym e)).totals.counts in (logins-few z, bin_few z, fld_few z)

pub ruleset fitting = (part_taken, sent_fits, drawn_fits, scratch_fits, totals_fit, logs_fit)

most : (n k : ℕ) → n ≤ 1048576 → n ≡ 2 ^ k → k ≤ 20
most n k h e = below k (λ b. omega (arith, h, e, pow_mono {i = 21} {j = k} b))
  where
    below : (k : ℕ) → (21 ≤ k → ⊥) → k ≤ 20
    below k f = let b : k < 21 = lt_of_not-le f in omega arith

-- a table of one system
size : (q n l b : ℕ) → l ≡ log₂ q → b ≡ log₂ n → Sized 1 4096 q → Sized 1 65536 n → q * n ≡ 2 ^ (l + b)
size q n l b e g y z = ap₂ (λ (i j : ℕ). i * j) (y.power ∙ ap (λ (k : ℕ). 2 ^ k) (sym e)) (z.power ∙ ap (λ (k : ℕ). 2 ^ k) (sym g)) ∙ sym (pow-add 2 l b)

-- the sizes that the rounds ask for
pub blocks-of : (q rb rf l b f : ℕ) → l ≡ log₂ q → b ≡ log₂ rb → f ≡ log₂ rf → Totals q rb rf
    → Blocks l b f (2 * (q * rb)) (2 * (q * rf)) (2 * outer_sent l b f) (2 * outer_drawn l b f) (block_words q rb rf)
blocks-of q rb rf l b f el eb ef z =
    let x = size q rb l b el eb z.counts.logins z.counts.bin in
    let y = size q rf l f el ef z.counts.logins z.counts.fld in
    record {
      bin_few = most (q * rb) (l + b) z.bin x;
      fld_few = most (q * rf) (l + f) z.fld y;
      bin_words = ap (λ (n : ℕ). 2 * n) x;
      fld_words = ap (λ (n : ℕ). 2 * n) y;
      bin_most = omega (arith, z.bin);
      fld_most = omega (arith, z.fld);
      proof = refl;
      draws = refl;
      blocks = omega arith;
    }

-- the same of the slices that are lent
pub blocks-lent : {q rb rf l b f wb wf p d s : ℕ} → l ≡ log₂ q → b ≡ log₂ rb → f ≡ log₂ rf → wb ≡ 2 * (q * rb) → wf ≡ 2 * (q * rf)
    → p ≡ 2 * outer_sent l b f → d ≡ 2 * outer_drawn l b f → s ≡ block_words q rb rf → Totals q rb rf → Blocks l b f wb wf p d s
blocks-lent {q} {rb} {rf} {l} {b} {f} el eb ef eu ev ep ed es z =
    let x = blocks-of q rb rf l b f el eb ef z in
    record {
      bin_few = x.bin_few;
      fld_few = x.fld_few;
      bin_words = eu ∙ x.bin_words;
      fld_words = ev ∙ x.fld_words;
      bin_most = omega (arith, eu, x.bin_most);
      fld_most = omega (arith, ev, x.fld_most);
      proof = ep;
      draws = ed;
      blocks = omega (arith, es, eu, ev);
    }
