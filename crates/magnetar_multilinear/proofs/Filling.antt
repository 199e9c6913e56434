-- The loop that takes the point's elements, the last one first, and doubles the table at each.
-- Assumes nothing.
use mathlib.Core.Path.{◌≡◌, sym, ◌∙◌}
use mathlib.Core.List.{List}
use Prim.Native.Nat.{ℕ, zero, suc, ◌-◌, ◌*◌, ◌^◌, ◌≤◌, ◌<◌}
use native.Mathlib.Nat.{pow-suc}
use native.Mathlib.Numerals.{sub-one}
use native.Mathlib.Omega.{arith}
use lib.Pow.{pow_mono}
use lib.ListN.{length, get_or, set, take, drop, drop_of_length-le}
use lib.Seq.{take_all, take-suc-set, drop-cons}
use Rattle.magnetar_multilinear.specs.EqTable.{eq_table_from}
use Rattle.magnetar_multilinear.specs.Doubling.{doubled}
use Rattle.magnetar_multilinear.proofs.EqTables.{from-nil, from_cons}

pub record Filled (c n : ℕ) (p t : List ℕ) (m j : ℕ) : Type 0 where
  pub size : m ≡ 2 ^ (n - j)
  pub table : take m t ≡ eq_table_from c (drop j p)

pub room : (n m j : ℕ) → zero < j → j ≤ n → m ≡ 2 ^ (n - j) → 2 * m ≤ 2 ^ n
room n m j pos le e =
    let h : 2 ^ suc (n - j) ≤ 2 ^ n = pow_mono (omega arith) in
    omega (arith, pow-suc 2 (n - j), h)

pub filled-start : (c n : ℕ) (p t t' : List ℕ) → c < 2 ^ 128 → t' ≡ set t 0 c → length p ≡ n → zero < length t → Filled c n p t' 1 n
filled-start c n p t t' b e lp pos = record {
  size = let z : n - n ≡ 0 = omega arith in rw z;
  table = rw (e, drop_of_length-le p {i = n} (omega arith), from-nil c b) (take-suc-set t 0 c pos);
}

pub filled_more : (c n : ℕ) (p t t' : List ℕ) (m j : ℕ) → length p ≡ n → zero < j → j ≤ n → Filled c n p t m j
    → take (2 * m) t' ≡ doubled (get_or p (j - 1) 0) (take m t) → Filled c n p t' (2 * m) (j - 1)
filled_more c n p t t' m zero lp pos le f e = absurd (omega arith)
filled_more c n p t t' m (suc k) lp pos le f e =
    let h : k < length p = omega arith in
    let d : n - k ≡ suc (n - suc k) = omega arith in
    let z : n - (suc k - 1) ≡ n - k = omega arith in
    record {
      size = rw (z, d, pow-suc) (omega (arith, f.size));
      table = e ∙ rw (sub-one, drop-cons p k 0, from_cons, f.table);
    }

pub filled-end : (c n : ℕ) (p t : List ℕ) (m j : ℕ) → length t ≡ 2 ^ n → j ≤ zero → Filled c n p t m j → t ≡ eq_table_from c p
filled-end c n p t m zero lt le f =
    let z : n - 0 ≡ n = omega arith in
    sym (take_all m t (omega (arith, lt, rw z at f.size))) ∙ f.table
filled-end c n p t m (suc j) lt le f = absurd (omega arith)
