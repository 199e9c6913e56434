-- The products of a range of the entries.
-- Assumes nothing.
use mathlib.Core.Path.{◌≡◌}
use mathlib.Core.Bool.{false, not}
use mathlib.Core.List.{List, ◌++◌}
use Prim.Native.Nat.{ℕ, ◌*◌, ◌^◌, ◌≤◌}
use lib.ListN.{length, drop}
use borrow.Author.Tests.{le-ltb, le-leb, eq-eqb}
use Rattle.magnetar_field.specs.Sizes.{log₂}
use Rattle.magnetar_field.specs.Words.{words}
use Rattle.magnetar_layout.specs.Tests.{or_refuse, is_size, Sized}
use Rattle.magnetar_matrix.specs.Matrix.{Matrix}
use Rattle.magnetar_matrix.specs.Numbers.{Numbers, entries_by, part}
use Rattle.magnetar_matrix.specs.Packed.{login_words, public_words, packed_table}
use Rattle.magnetar_matrix.specs.Sum.{blocks}
use Rattle.magnetar_matrix.specs.Table.{login_block}
use Rattle.magnetar_matrix.proofs.EntryLists.{part-are}
use Rattle.magnetar_r1cs.specs.Entries.{range_refusal, range_matrix, range_out}
use Rattle.magnetar_r1cs.proofs.Split.{table_is}

pub range-is : (s : Numbers) (a b n : ℕ) (ws x : List ℕ) (q w : ℕ)
    → blocks (login_block w x ws (entries_by (part a b s)) n) q ≡ packed_table (range_matrix n (2 * w) a b s) ws x q w
range-is s a b n ws x q w = rw part-are (table_is (range_matrix n (2 * w) a b s) ws x q w)

-- ---- what they leave where the sizes fit
size-passes : (least most n : ℕ) → Sized least most n → not (is_size least most n) ≡ false
unfolding is_size
size-passes least most n z = rw (le-leb least n z.low, le-leb n most z.high, eq-eqb n (2 ^ log₂ n) z.power)

pub range-left : (a : Matrix) (ws x : List ℕ) (q w : ℕ) (out : List ℕ) → Sized 2 65536 (2 * w) → Sized 1 4096 q → length ws ≡ q * login_words w
    → length x ≡ q * public_words w → Sized 1 65536 a.rows → q * a.rows ≤ 1048576 → q * (2 * a.rows) ≤ length out
    → range_out a ws x q w out ≡ words (packed_table a ws x q w) ++ drop (q * (2 * a.rows)) out
unfolding range_refusal or_refuse
range-left a ws x q w out zm zq lp lx zn most room = rw (
  size-passes 2 65536 (2 * w) zm,
  size-passes 1 4096 q zq,
  eq-eqb (length ws) (q * login_words w) lp,
  eq-eqb (length x) (q * public_words w) lx,
  size-passes 1 65536 a.rows zn,
  le-ltb 1048576 (q * a.rows) most,
  le-ltb (length out) (q * (2 * a.rows)) room,
)
