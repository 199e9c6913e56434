-- The tests 1, 4 and 8 to 10 of a run: which of them refuses, and what they leave.
-- Assumes nothing.
use mathlib.Core.Path.{◌≡◌, refl, sym, ◌∙◌}
use mathlib.Core.Bool.{Bool, true, false}
use mathlib.Core.List.{List, [], ◌∷◌}
use Prim.Native.Nat.{ℕ, ◌*◌, ◌/◌, ◌≤◌}
use lib.ListN.{length}
use borrow.Author.Tests.{not-false, ltb-false, ne_eqb}
use Rattle.magnetar_layout.specs.Tests.{or_refuse, first_refusal, is_size, size_tests, most_columns, most_logins, most_rows, most_batch_rows, most_segments, Sized}
use Rattle.magnetar_layout.specs.Layout.{LayoutFits}
use Rattle.magnetar_layout.proofs.Laid.{sound, layout-own}
use Rattle.std.specs.Prelude.{Result, Ok}
use Rattle.std.specs.Result.{IsErrAnd}
use Rattle.std.proofs.lemmas.Result.{err_from_is_err_and}
use native.Mathlib.Omega.{arith}
use Rattle.magnetar_field.specs.declared.refusal.Refusal.{Refusal}
use Rattle.magnetar_field.specs.Number.{number}
use Rattle.magnetar_layout.proofs.Refused.{number-positive}
use Rattle.magnetar_layout.proofs.Passing.{passing, cleared}
use Rattle.magnetar_matrix.proofs.Blocks.{product-fits}
use Rattle.magnetar_layout.proofs.SizeLaws.{not-bad}
use Rattle.magnetar_protocol.specs.RunTests.{run_tests, outline_tests}
use Rattle.magnetar_protocol.specs.Scratch.{asked, words_unless, verifier_scratch, prover_scratch, verifier_scratch_words, prover_scratch_words}

pub record Logins (m q : ℕ) : Type 0 where
  pub columns : Sized 2 most_columns m
  pub size : is_size 2 most_columns m ≡ true
  pub logins : Sized 1 most_logins q

pub logins-given : (m q : ℕ) → 0 ≡ first_refusal 0 (size_tests m q) → Logins m q
logins-given m q e =
    let k = cleared (size_tests m q) refl e in
    record { columns = not-bad k.0; size = not-false (is_size 2 most_columns m) k.0; logins = not-bad k.1.0 }

-- n rows for q logins: the product fits
pub ruleset rows = (passing, product-fits)

-- what both leave
pub record Counts (m q b f : ℕ) : Type 0 where
  pub columns : Sized 2 most_columns m
  pub size : is_size 2 most_columns m ≡ true
  pub logins : Sized 1 most_logins q
  pub bin : Sized 1 most_rows b
  pub bin_total : q * b ≤ most_batch_rows
  pub fld : Sized 1 most_rows f
  pub fld_total : q * f ≤ most_batch_rows

pub counts-given : (m q b f : ℕ) → 0 ≡ first_refusal 0 (run_tests m q b f) → Counts m q b f
counts-given m q b f e =
    let k = cleared (run_tests m q b f) refl e in
    record {
      columns = not-bad k.0;
      size = not-false (is_size 2 most_columns m) k.0;
      logins = not-bad k.1.0;
      bin = not-bad k.1.1.0;
      bin_total = ltb-false most_batch_rows (q * b) k.1.1.1.0;
      fld = not-bad k.1.1.1.1.0;
      fld_total = ltb-false most_batch_rows (q * f) k.1.1.1.1.1.0;
    }

-- ---- the layout over half the columns
module _ (m q b f : ℕ) (ns : List ℕ) where
  -- what they leave
  pub record Outlined : Type 0 where
    pub counts : Counts m q b f
    pub layout : LayoutFits (m / 2) ns
    pub few : length ns ≤ most_segments

  pub outlined-given : 0 ≡ first_refusal 0 (outline_tests m q b f ns) → Outlined
  outlined-given e =
      let k = cleared (outline_tests m q b f ns) refl e in
      let a = k.1.1.1.1.1.1 in
      let c = clear_none k.0 k.1.0 k.1.1.0 k.1.1.1.0 k.1.1.1.1.0 k.1.1.1.1.1.0 in
      let s = counts-given m q b f (sym c) in
      record {
        counts = s;
        layout = sound (m / 2) ns (layout-own m ns s.size ∙ layout-none a.0 a.1.0 a.1.1.0);
        few = ltb-false most_segments (length ns) a.1.1.0;
      }
    where
      clear_none : {u v w x y z : Bool} → u ≡ false → v ≡ false → w ≡ false → x ≡ false → y ≡ false → z ≡ false
          → first_refusal 0 ((1, u) ∷ (1, v) ∷ (4, w) ∷ (4, x) ∷ (4, y) ∷ (4, z) ∷ []) ≡ 0
      clear_none p r t u v w = unfold or_refuse in rw (p, r, t, u, v, w)

      layout-none : {u v w : Bool} → u ≡ false → v ≡ false → w ≡ false → first_refusal 0 ((8, u) ∷ (9, v) ∷ (10, w) ∷ []) ≡ 0
      layout-none p r t = unfold or_refuse in rw (p, r, t)

-- ---- how many words of scratch
-- a `?` that met a refusal
pub asked-out : (r : Result ℕ Refusal) (e : Refusal) {z : ℕ} (n : ℕ) → IsErrAnd r (λ y. y ≡ e) → number e ≡ z → asked r ≡ words_unless z n
asked-out r e n h f =
    let p = err_from_is_err_and r h in
    let q = number-positive e in
    rw (p.1, p.2, ← f, ne_eqb (number e) 0 (λ z. omega arith))

-- and where none was met
pub asked-words : {z : ℕ} (n k : ℕ) → 0 ≡ z → k ≡ n → asked (Ok k) ≡ words_unless z n
asked-words n k e f = rw (← e, f)

-- where no size is refused
pub verifier-within : (m q b f : ℕ) → first_refusal 0 (run_tests m q b f) ≡ 0 → (verifier_scratch_words m q b f).words ≡ verifier_scratch m q b f
unfolding verifier_scratch_words
verifier-within m q b f h = rw h

pub prover-within : (m q b f : ℕ) → first_refusal 0 (run_tests m q b f) ≡ 0 → (prover_scratch_words m q b f).words ≡ prover_scratch m q b f
unfolding prover_scratch_words
prover-within m q b f h = rw h
