-- Points of the wanted length, and their eq tables.
-- Assumes nothing.
use mathlib.Core.Path.{◌≡◌, sym, ◌∙◌}
use mathlib.Core.List.{List, ◌++◌, append-nil}
use Prim.Native.Nat.{ℕ, ◌+◌, ◌*◌, ◌/◌, ◌%◌, ◌^◌, ◌≤◌, ◌<◌}
use native.Mathlib.Nat.{lt_of_not-le}
use native.Mathlib.Omega.{arith}
use lib.Pow.{pow_mono}
use lib.Dec.{ltb}
use lib.ListN.{length, get_or, drop_of_length-le, get_or-append}
use lib.Seq.{get_or-append-add}
use mathlib.Core.Bool.{true}
use borrow.Author.Tests.{eq-eqb, le-ltb, ltb-true}
use Rattle.magnetar_field.specs.Sizes.{log₂}
use Rattle.magnetar_field.specs.Words.{elements, words}
use Rattle.magnetar_multilinear.specs.EqTable.{eq_table, eq_at}
use Rattle.magnetar_multilinear.specs.Entries.{eq_refusal, eq_out, table_words}
use Rattle.magnetar_field.specs.Gf128.{◌⊗◌}
use Rattle.magnetar_field.proofs.Elements.{elements-length}
use Rattle.magnetar_multilinear.proofs.EqTables.{eq_table-length, eq_table-get, from_one}
use Rattle.magnetar_matrix.specs.Matrix.{Entry}
use Rattle.magnetar_matrix.specs.Table.{Point, cross}
use Rattle.magnetar_layout.proofs.EveryLaws.{both}
use Rattle.magnetar_r1cs.specs.Inside.{inside}
use Rattle.magnetar_layout.specs.Tests.{Sized}

-- a power of two up to 65,536 has at most 16 as its logarithm
pub log-most : (n : ℕ) → n ≤ 65536 → n ≡ 2 ^ log₂ n → log₂ n ≤ 16
log-most n h e = go (log₂ n) e
  where
    go : (k : ℕ) → n ≡ 2 ^ k → k ≤ 16
    go k e = lt-of-not-le' k (λ b. omega (arith, pow_mono {i = 17} {j = k} b))
      where
        lt-of-not-le' : (k : ℕ) → (17 ≤ k → ⊥) → k ≤ 16
        lt-of-not-le' k f = let b : k < 17 = lt_of_not-le f in omega arith

pub point-of : (least n : ℕ) (p s : List ℕ) → Sized least 65536 n → length p ≡ 2 * log₂ n → length s ≡ 2 * n → Point p s
point-of least n p s z l r =
    let h : log₂ n ≤ 16 = log-most n z.high z.power in
    let k : length p / 2 ≡ log₂ n = omega arith in
    record { even = omega arith; short = omega arith; room = rw (k, ← z.power) r }

-- what `EqBits::build` leaves there from 1
pub eq-built : (p s : List ℕ) → Point p s → eq_out p 1 s ≡ words (eq_table (elements p))
unfolding eq_refusal
eq-built p s h =
    rw (
      eq-eqb (length p % 2) 0 h.even,
      le-ltb 40 (length p) h.short,
      le-ltb (length s) (table_words p) (omega (arith, h.room)),
      drop_of_length-le s {i = table_words p} (omega (arith, h.room)),
      append-nil,
      from_one,
    )

-- a point's elements are as many as the logarithm says
pub point-size : (least n : ℕ) (p : List ℕ) → Sized least 65536 n → length p ≡ 2 * log₂ n → n ≡ 2 ^ length (elements p)
point-size least n p z l =
    let k : length p / 2 ≡ log₂ n = omega arith in
    rw (elements-length, k) z.power

-- ---- the two eq tables, one behind the other, at an entry that lies inside
module _ (n m : ℕ) (r c : List ℕ) (en : n ≡ 2 ^ length r) (em : m ≡ 2 ^ length c) where
  pub cross-is : (e : Entry) → inside n m e ≡ true → cross (eq_table r ++ eq_table c) n e ≡ e.value ⊗ (eq_at r e.row ⊗ eq_at c e.col)
  unfolding cross
  cross-is e t =
      let k = both (ltb e.row n) (ltb e.col m) t in
      let a : e.row < n = ltb-true e.row n k.0 in
      let b : e.col < m = ltb-true e.col m k.1 in
      let l : length (eq_table r) ≡ n = eq_table-length r ∙ sym en in
      let x : get_or (eq_table r ++ eq_table c) e.row 0 ≡ eq_at r e.row =
      get_or-append (eq_table r) (eq_table c) 0 e.row (omega arith) ∙ eq_table-get r e.row (rw en at a) in
      let y : get_or (eq_table r ++ eq_table c) (n + e.col) 0 ≡ eq_at c e.col =
      rw (← l) (get_or-append-add (eq_table r) (eq_table c) e.col 0) ∙ eq_table-get c e.col (rw em at b) in
      rw (x, y)
