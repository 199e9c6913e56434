-- Parts of a slice that were lent and are back.
-- Assumes nothing.
use mathlib.Core.Path.{◌≡◌, ◌∙◌}
use mathlib.Core.List.{List, [], ◌++◌, append-nil}
use Prim.Native.Nat.{ℕ, ◌-◌, ◌≤◌}
use native.Mathlib.Omega.{arith}
use lib.ListN.{length, take, drop, length-append, length-drop, drop_of_length-le}
use lib.Seq.{take_at, drop_at, take_all}
use borrow.Rule.Slice.PartMut.{put_mid, same_len_mid}

-- the front is t; what is behind it
module _ (t s : List ℕ) (k : ℕ) (fits : k ≤ length s) (front : length t ≡ k) where
  whole_length : length (t ++ drop k s) ≡ length s
  whole_length = simp (length-append, length-drop) (omega arith)

  pub behind : take (length (t ++ drop k s) - k) (drop k (t ++ drop k s)) ≡ drop k s
  behind =
      rw (whole_length, drop_at t (drop k s) k front)
      (take_all (length s - k) (drop k s) (rw length-drop (omega arith)))

  pub both-parts : (u : List ℕ) → put_mid k (length (t ++ drop k s) - k) (t ++ drop k s) u ≡ t ++ u
  both-parts u =
      let e : drop (length s - k) (drop k s) ≡ [] = drop_of_length-le (drop k s) {i = length s - k} (rw length-drop (omega arith)) in
      rw (whole_length, take_at t (drop k s) k front, drop_at t (drop k s) k front, e, append-nil)

  pub both-length : (u : List ℕ) → length u ≡ length (take (length (t ++ drop k s) - k) (drop k (t ++ drop k s)))
      → length (put_mid k (length (t ++ drop k s) - k) (t ++ drop k s) u) ≡ length s
  both-length u e = same_len_mid k (length (t ++ drop k s) - k) (t ++ drop k s) u e ∙ whole_length
