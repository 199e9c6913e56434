-- Vectors one behind the other.
-- Assumes nothing.
use mathlib.Core.Path.{◌≡◌, sym, ap, ap₂, ◌∙◌}
use mathlib.Core.List.{List, ◌++◌}
use Prim.Native.Nat.{ℕ, zero, suc, ◌+◌, ◌-◌, ◌*◌, ◌≤◌, ◌<◌}
use native.Mathlib.Nat.{suc-mul, mul-le-mul_left, mul-le-mul_right, le_trans, zero-mul}
use native.Mathlib.Numerals.{add-one}
use native.Mathlib.Omega.{arith}
use lib.ListN.{length, take, drop, length-append, length-drop}
use lib.Seq.{take_at, take-append-add, take_all, length-take-le}
use borrow.Rule.Slice.PartMut.{put_mid}
use Rattle.magnetar_matrix.specs.Sum.{blocks}
use Rattle.magnetar_matrix.proofs.LoginParts.{part-ends}

-- n blocks of k members each
pub blocks-length : (f : ℕ → List ℕ) (n k : ℕ) → ((u : ℕ) → length (f u) ≡ k) → length (blocks f n) ≡ n * k
unfolding blocks
blocks-length f zero k h = sym (zero-mul k)
blocks-length f (suc n) k h = length-append (blocks f n) (f n) ∙ ap₂ ◌+◌ (blocks-length f n k h) (h n) ∙ omega (arith, suc-mul n k)

-- the front of s, up to the end of block u, is that of the blocks
pub blocks_start : (f : ℕ → List ℕ) (s : List ℕ) (m : ℕ) → take (0 * m) s ≡ blocks f 0
unfolding blocks
blocks_start f s m = rw zero-mul

pub blocks_more : (f : ℕ → List ℕ) (s t : List ℕ) (u m : ℕ) → u * m + m ≤ length s → take (u * m) s ≡ blocks f u
    → length t ≡ m → t ≡ f u → take ((u + 1) * m) (put_mid (u * m) (u * m + m - u * m) s t) ≡ blocks f (u + 1)
unfolding blocks
blocks_more f s t u m h a l b =
    let e : (u + 1) * m ≡ u * m + m = rw add-one (suc-mul u m) in
    let d : u * m + m - u * m ≡ m = omega arith in
    let k : length (take (u * m) s) ≡ u * m = length-take-le (u * m) s (omega arith) in
    let g : take (u * m + m) (take (u * m) s ++ (t ++ drop m (drop (u * m) s))) ≡ take (u * m) s ++ t = front k in
    rw (e, d, g, a, b, add-one)
  where
    front : length (take (u * m) s) ≡ u * m → take (u * m + m) (take (u * m) s ++ (t ++ drop m (drop (u * m) s))) ≡ take (u * m) s ++ t
    front k =
        ap (λ (n : ℕ). take (n + m) (take (u * m) s ++ (t ++ drop m (drop (u * m) s)))) (sym k)
        ∙ (take-append-add (take (u * m) s) (t ++ drop m (drop (u * m) s)) m ∙ ap (λ (r : List ℕ). take (u * m) s ++ r) (take_at t (drop m (drop (u * m) s)) m l))

pub blocks_end : (f : ℕ → List ℕ) (s : List ℕ) (u q m : ℕ) → u ≡ q → length s ≡ q * m → take (u * m) s ≡ blocks f u → s ≡ blocks f q
blocks_end f s u q m e l a =
    sym (take_all (q * m) s (omega arith)) ∙ (rw e at a)

pub product-fits : (q m : ℕ) → q ≤ 4096 → m ≤ 131072 → q * m ≤ 536870912
product-fits q m h l = le_trans (mul-le-mul_left q l) (mul-le-mul_right 131072 h)

-- block u of q blocks of m words, in n words
pub record Block (n u m : ℕ) : Type 0 where
  pub ends : u * m + m ≤ n
  pub small : n ≤ 536870912

pub block_of : (n q m u : ℕ) → n ≡ q * m → q ≤ 4096 → m ≤ 131072 → u < q → Block n u m
block_of n q m u e h l b = record { ends = rw e (part-ends m q u b); small = rw e (product-fits q m h l) }

-- what was put there, and its length
pub mid-length : (s t : List ℕ) (a m : ℕ) → a + m ≤ length s → length t ≡ length (take (a + m - a) (drop a s)) → length t ≡ m
mid-length s t a m h e =
    let d : a + m - a ≡ m = omega arith in
    e ∙ rw d (length-take-le m (drop a s) (rw length-drop (omega arith)))
