-- A part of a list that was put in the place of another.
-- Assumes nothing.
use mathlib.Core.Path.{◌≡◌, refl, sym, ap, ◌∙◌}
use mathlib.Core.List.{List, [], ◌∷◌, ◌++◌, append_assoc}
use Prim.Native.Nat.{ℕ, zero, suc, ◌+◌, ◌-◌, ◌≤◌}
use native.Mathlib.Omega.{arith}
use lib.ListN.{length, take, drop, length-append, length-drop}
use lib.Seq.{take_at, drop_at, drop-drop, take-take, take-append-le, length-take-le}
use borrow.Rule.Slice.PartMut.{put_mid, same_len_mid, mid_len, take_put, drop_put}

-- a part's length
pub part_length : (s : List ℕ) (a e : ℕ) → e ≤ length s → length (take (e - a) (drop a s)) ≡ e - a
part_length s a e h = mid_len a e s h

-- that of a front
pub part_taken : (n : ℕ) (s : List ℕ) → n ≤ length s → length (take n s) ≡ n
part_taken n s h = length-take-le n s h

pub take-of-drop : (s : List ℕ) (a n k : ℕ) → a + n ≤ k → take n (drop a (take k s)) ≡ take n (drop a s)
take-of-drop [] zero n k h = go n k
  where
    go : (n k : ℕ) → take {A = ℕ} n (take k []) ≡ take n []
    go n zero = refl
    go n (suc k) = refl
take-of-drop [] (suc a) n zero h = refl
take-of-drop [] (suc a) n (suc k) h = refl
take-of-drop (x ∷ s) zero n k h = take-take n k (x ∷ s) (omega arith)
take-of-drop (x ∷ s) (suc a) n zero h = absurd (omega arith)
take-of-drop (x ∷ s) (suc a) n (suc k) h = take-of-drop s a n k (omega arith)

-- t in the place of what was between a and e
module _ (s t : List ℕ) (a e : ℕ) (h : a ≤ e) (g : e ≤ length s) (l : length t ≡ e - a) where
  abbrev new : List ℕ
  new = put_mid a (e - a) s t

  pub put-length : length new ≡ length s
  put-length = same_len_mid a (e - a) s t (l ∙ sym (mid_len a e s g))

  -- in front
  pub put_front : take a new ≡ take a s
  put_front = take_put a (e - a) s t (omega arith)

  -- a part in front
  pub put-before : (b n : ℕ) → b + n ≤ a → take n (drop b new) ≡ take n (drop b s)
  put-before b n k = sym (take-of-drop new b n a k) ∙ (ap (λ (x : List ℕ). take n (drop b x)) put_front ∙ take-of-drop s b n a k)

  -- what stands there now
  pub put-from : drop a new ≡ t ++ drop (e - a) (drop a s)
  put-from = drop_at (take a s) (t ++ drop (e - a) (drop a s)) a (length-take-le a s (omega arith))

  pub put_in : (n : ℕ) → n ≤ e - a → take n (drop a new) ≡ take n t
  put_in n k = ap (take n) put-from ∙ take-append-le n t (drop (e - a) (drop a s)) (omega (arith, l))

  pub put-at : take (e - a) (drop a new) ≡ t
  put-at = ap (take (e - a)) put-from ∙ take_at t (drop (e - a) (drop a s)) (e - a) l

  pub put-upto : take e new ≡ take a s ++ t
  put-upto =
      ap (λ (x : List ℕ). take e x) (sym (append_assoc (take a s) t (drop (e - a) (drop a s))))
      ∙ take_at (take a s ++ t) (drop (e - a) (drop a s)) e (length-append (take a s) t ∙ both)
    where
      both : length (take a s) + length t ≡ e
      both = omega (arith, length-take-le a s (omega arith), l)

  -- behind
  pub put_back : drop e new ≡ drop e s
  put_back = drop_put a e s t h g l

  pub put-behind : (b n : ℕ) → e ≤ b → take n (drop b new) ≡ take n (drop b s)
  put-behind b n k = ap (take n) (from b k new ∙ (ap (drop (b - e)) put_back ∙ sym (from b k s)))
    where
      from : (b : ℕ) → e ≤ b → (x : List ℕ) → drop b x ≡ drop (b - e) (drop e x)
      from b k x = let q : e + (b - e) ≡ b = omega arith in sym (drop-drop (b - e) e x ∙ ap (λ (i : ℕ). drop i x) q)

-- n words from a on
pub part-is : (s : List ℕ) (a n : ℕ) → take (a + n - a) (drop a s) ≡ take n (drop a s)
part-is s a n = let d : a + n - a ≡ n = omega arith in rw d

pub part-size : (s : List ℕ) (a n : ℕ) → a + n ≤ length s → length (take (a + n - a) (drop a s)) ≡ n
part-size s a n h = mid_len a (a + n) s h ∙ omega arith

-- n words put at a
module _ (s t : List ℕ) (a n : ℕ) (g : a + n ≤ length s) (l : length t ≡ n) where
  same : length t ≡ a + n - a
  same = omega (arith, l)

  pub mid-length : length (put_mid a (a + n - a) s t) ≡ length s
  mid-length = put-length s t a (a + n) (omega arith) g same

  pub mid-front : take a (put_mid a (a + n - a) s t) ≡ take a s
  mid-front = put_front s t a (a + n) (omega arith) g same

  pub mid-before : (b k : ℕ) → b + k ≤ a → take k (drop b (put_mid a (a + n - a) s t)) ≡ take k (drop b s)
  mid-before = put-before s t a (a + n) (omega arith) g same

  pub mid-behind : (b k : ℕ) → a + n ≤ b → take k (drop b (put_mid a (a + n - a) s t)) ≡ take k (drop b s)
  mid-behind = put-behind s t a (a + n) (omega arith) g same

  pub mid-in : (k : ℕ) → k ≤ n → take k (drop a (put_mid a (a + n - a) s t)) ≡ take k t
  mid-in k h = put_in s t a (a + n) (omega arith) g same k (omega arith)

  pub mid_at : take n (drop a (put_mid a (a + n - a) s t)) ≡ t
  mid_at = sym (part-is (put_mid a (a + n - a) s t) a n) ∙ put-at s t a (a + n) (omega arith) g same

  pub mid-upto : take (a + n) (put_mid a (a + n - a) s t) ≡ take a s ++ t
  mid-upto = put-upto s t a (a + n) (omega arith) g same

  pub mid_back : drop (a + n) (put_mid a (a + n - a) s t) ≡ drop (a + n) s
  mid_back = put_back s t a (a + n) (omega arith) g same

-- n words put at the front
module _ (s t : List ℕ) (n : ℕ) (g : n ≤ length s) (l : length t ≡ n) where
  pub fore-length : length (t ++ drop n s) ≡ length s
  fore-length = length-append t (drop n s) ∙ omega (arith, l, length-drop n s)

  pub fore-in : (k : ℕ) → k ≤ n → take k (t ++ drop n s) ≡ take k t
  fore-in k h = take-append-le k t (drop n s) (omega (arith, l))

  pub fore-back : drop n (t ++ drop n s) ≡ drop n s
  fore-back = drop_at t (drop n s) n l

  pub fore-behind : (b k : ℕ) → n ≤ b → take k (drop b (t ++ drop n s)) ≡ take k (drop b s)
  fore-behind b k h = ap (take k) (from (t ++ drop n s) ∙ (ap (drop (b - n)) fore-back ∙ sym (from s)))
    where
      from : (x : List ℕ) → drop b x ≡ drop (b - n) (drop n x)
      from x = let q : n + (b - n) ≡ b = omega arith in sym (drop-drop (b - n) n x ∙ ap (λ (i : ℕ). drop i x) q)
