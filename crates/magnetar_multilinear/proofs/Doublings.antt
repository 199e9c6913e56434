-- The loop that splits the entries of a table, the last one first.
-- Assumes nothing.
use mathlib.Core.Path.{◌≡◌, refl, sym, ap, ◌∙◌}
use mathlib.Core.List.{List, [], ◌∷◌}
use Prim.Native.Nat.{ℕ, zero, suc, ◌+◌, ◌-◌, ◌*◌, ◌≤◌, ◌<◌}
use native.Mathlib.Nat.{le_of_suc-le-suc}
use native.Mathlib.Numerals.{add-one, sub-one}
use native.Mathlib.Omega.{arith}
use lib.ListN.{length, get_or, set, take, drop, length-take}
use lib.Seq.{take-take, take-set-le, take-set-lt, get_or-take, drop-cons}
use Rattle.magnetar_multilinear.specs.Doubling.{doubled, split_entry}

drop-two : (l : List ℕ) (j a b : ℕ) → suc j < length l
    → drop j (set (set l j a) (suc j) b) ≡ a ∷ (b ∷ drop (suc (suc j)) l)
drop-two [] j a b h = absurd (omega arith)
drop-two (x ∷ []) zero a b h = absurd (omega arith)
drop-two (x ∷ (y ∷ l)) zero a b h = refl
drop-two (x ∷ l) (suc j) a b h = drop-two l j a b (le_of_suc-le-suc h)

drop-take : (n : ℕ) (l : List ℕ) → drop n (take n l) ≡ []
drop-take zero l = refl
drop-take (suc n) [] = refl
drop-take (suc n) (x ∷ l) = drop-take n l

-- the entries from i up are split, and those below i are as they were
pub record Split (m r : ℕ) (t₀ t : List ℕ) (i : ℕ) : Type 0 where
  pub left : take i t ≡ take i t₀
  pub right : drop (2 * i) (take (2 * m) t) ≡ doubled r (drop i (take m t₀))

pub split-none : (m r : ℕ) (t : List ℕ) → Split m r t t m
unfolding doubled
split-none m r t = record { left = refl; right = drop-take (2 * m) t ∙ sym (ap (doubled r) (drop-take m t)) }

module _ (m r : ℕ) (t₀ t : List ℕ) (k : ℕ) (lt : k < m) (room : 2 * m ≤ length t) (same : length t ≡ length t₀) (s : Split m r t₀ t (suc k)) where
  value-kept : get_or t₀ k 0 ≡ get_or t k 0
  value-kept =
      sym (get_or-take (suc k) t₀ k 0 (omega arith))
      ∙ ap (λ (l : List ℕ). get_or l k 0) (sym s.left)
      ∙ get_or-take (suc k) t k 0 (omega arith)

  left-more : (x y : ℕ) → take k (set (set t (2 * k) x) (2 * k + 1) y) ≡ take k t₀
  left-more x y =
      take-set-le k _ (2 * k + 1) y (omega arith)
      ∙ take-set-le k t (2 * k) x (omega arith)
      ∙ sym (take-take k (suc k) t (omega arith))
      ∙ ap (take k) s.left
      ∙ take-take k (suc k) t₀ (omega arith)

  two-more : (x y : ℕ) → drop (2 * k) (take (2 * m) (set (set t (2 * k) x) (2 * k + 1) y)) ≡ x ∷ (y ∷ doubled r (drop (suc k) (take m t₀)))
  two-more x y =
      let h : suc (2 * k) < length (take (2 * m) t) = rw length-take (omega arith) in
      let e : suc (suc (2 * k)) ≡ 2 * suc k = omega arith in
      rw (take-set-lt (2 * m) (set t (2 * k) x) (2 * k + 1) y (omega arith), take-set-lt (2 * m) t (2 * k) x (omega arith), add-one, drop-two (take (2 * m) t) (2 * k), e, s.right)

  right-more : drop (2 * k) (take (2 * m) (split_entry t k r)) ≡ doubled r (drop k (take m t₀))
  unfolding doubled
  right-more =
      let h : k < length (take m t₀) = rw length-take (omega arith) in
      rw (drop-cons (take m t₀) k 0, get_or-take m t₀ k 0, value-kept) (two-more _ _)

  split-suc : Split m r t₀ (split_entry t k r) k
  split-suc = record { left = left-more _ _; right = right-more }

-- one turn of the loop, at i - 1
pub split-more : (m r : ℕ) (t₀ t : List ℕ) (i : ℕ) → zero < i → i ≤ m → 2 * m ≤ length t → length t ≡ length t₀
    → Split m r t₀ t i → Split m r t₀ (split_entry t (i - 1) r) (i - 1)
split-more m r t₀ t zero pos le room same s = absurd (omega arith)
split-more m r t₀ t (suc k) pos le room same s = rw sub-one (split-suc m r t₀ t k le room same s)

pub split-all : (m r : ℕ) (t₀ t : List ℕ) (i : ℕ) → i ≤ zero → Split m r t₀ t i → take (2 * m) t ≡ doubled r (take m t₀)
split-all m r t₀ t zero le s = s.right
split-all m r t₀ t (suc i) le s = absurd (omega arith)
