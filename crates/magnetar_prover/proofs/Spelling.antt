-- Labels written from the end of a buffer: the digits of a number, then the prefix in front of them.
-- Assumes nothing.
use mathlib.Core.Path.{◌≡◌, refl, sym, ap, ◌∙◌}
use mathlib.Core.List.{List, [], ◌∷◌, ◌++◌, append_assoc, append-nil}
use Prim.Native.Nat.{ℕ, zero, suc, ◌+◌, ◌*◌, ◌-◌, ◌/◌, ◌%◌, ◌^◌, ◌<◌, ◌≤◌}
use native.Mathlib.Omega.{arith}
use lib.ListN.{length, set, take, drop, length-set, length-drop, drop_of_length-le}
use lib.Seq.{drop-cons, drop-set-lt, get_or-set_same, take_all}
use borrow.Author.Tests.{lt-ltb, le-ltb}
use Rattle.magnetar_schedule.specs.Schedule.{decimal}

-- a cell is written in front of what begins behind it
drop-written : (out : List ℕ) (at x : ℕ) → at < length out → drop at (set out at x) ≡ x ∷ drop (suc at) out
drop-written out at x h =
    let l : at < length (set out at x) = rw length-set h in
    rw (drop-cons (set out at x) at 0 l, get_or-set_same out at x 0 h, drop-set-lt (suc at) out at x (omega arith))

ten-suc : (k : ℕ) → 10 ^ suc k ≡ 10 * 10 ^ k
ten-suc k = omega arith

-- the digits of n are those of `rest`, at most `left` and one, and those that stand behind `at`
pub record Spelt (n : ℕ) (out : List ℕ) (rest at : ℕ) : Type 0 where
  pub left : ℕ
  pub place : at ≡ 28 + left
  pub most : at ≤ 47
  pub size : length out ≡ 48
  pub small : rest < 10 ^ suc left
  pub whole : decimal (suc left) rest ++ drop (suc at) out ≡ decimal 20 n

pub spelt-start : (n : ℕ) (out : List ℕ) → n < 2 ^ 64 → length out ≡ 48 → Spelt n out n 47
spelt-start n out h l =
    record {
      left = 19;
      place = refl;
      most = omega arith;
      size = l;
      small = omega arith;
      whole = ap (λ (r : List ℕ). decimal 20 n ++ r) (drop_of_length-le out {i = 48} (omega arith)) ∙ append-nil (decimal 20 n);
    }

digits_more : (k n : ℕ) → 9 < n → decimal (suc k) n ≡ decimal k (n / 10) ++ ((48 + n % 10) ∷ [])
unfolding decimal
digits_more k n h = rw (le-ltb n 10 (omega arith))

digits-one : (k n : ℕ) → n ≤ 9 → decimal (suc k) n ≡ (48 + n) ∷ []
unfolding decimal
digits-one k n h = rw (lt-ltb n 10 (omega arith))

pub spelt-more
    : {n rest at : ℕ} {out : List ℕ}
    → Spelt n out rest at
    → 9 < rest
    → Spelt n (set out at (48 + rest % 10)) (rest / 10) (at - 1)
spelt-more {n} {rest} {at} {out} s h = go s.left s.place s.small s.whole
  where
    go
        : (k : ℕ)
        → at ≡ 28 + k
        → rest < 10 ^ suc k
        → decimal (suc k) rest ++ drop (suc at) out ≡ decimal 20 n
        → Spelt n (set out at (48 + rest % 10)) (rest / 10) (at - 1)
    go zero e b w = absurd (omega arith)
    go (suc k) e b w =
        let x = 48 + rest % 10 in
        let most : at ≤ 47 = s.most in
        let size : length out ≡ 48 = s.size in
        let ten : 10 ^ suc (suc k) ≡ 10 * 10 ^ suc k = ten-suc (suc k) in
        let at' : suc (at - 1) ≡ at = omega arith in
        let d : drop (suc (at - 1)) (set out at x) ≡ x ∷ drop (suc at) out =
        ap (λ (i : ℕ). drop i (set out at x)) at' ∙ drop-written out at x (omega arith) in
        record {
          left = k;
          place = omega arith;
          most = omega arith;
          size = rw length-set size;
          small = omega arith;
          whole =
              ap (λ (r : List ℕ). decimal (suc k) (rest / 10) ++ r) d
              ∙ sym (append_assoc (decimal (suc k) (rest / 10)) (x ∷ []) (drop (suc at) out))
              ∙ ap (λ (r : List ℕ). r ++ drop (suc at) out) (sym (digits_more (suc k) rest h))
              ∙ w;
        }

-- where the last digit goes
pub spelt-end
    : {n rest at : ℕ} {out : List ℕ}
    → Spelt n out rest at
    → rest ≤ 9
    → (28 ≤ at) × (at ≤ 48) × (drop at (set out at (48 + rest)) ≡ decimal 20 n)
spelt-end {n} {rest} {at} {out} s h =
    let place : at ≡ 28 + s.left = s.place in
    let most : at ≤ 47 = s.most in
    let size : length out ≡ 48 = s.size in
    let d : drop at (set out at (48 + rest)) ≡ decimal (suc s.left) rest ++ drop (suc at) out =
    drop-written out at (48 + rest) (omega arith) ∙ ap (λ (r : List ℕ). r ++ drop (suc at) out) (sym (digits-one s.left rest h)) in
    (omega arith, omega arith, d ∙ s.whole)

-- the end of the buffer, from `at` on
pub rest_of : (out : List ℕ) (at : ℕ) → length out ≡ 48 → take (48 - at) (drop at out) ≡ drop at out
rest_of out at h =
    let l : length (drop at out) ≡ length out - at = length-drop at out in
    take_all (48 - at) (drop at out) (omega arith)
