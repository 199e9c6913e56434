-- A login's words among the packed words, its bits, its public words, and its z = (w, 1, x).
-- Assumes nothing.
use mathlib.Core.Path.{◌≡◌, refl, sym, ap, ◌∙◌}
use mathlib.Core.Bool.{Bool, true, false}
use mathlib.Core.List.{List, [], ◌∷◌}
use Prim.Native.Nat.{ℕ, zero, suc, ◌+◌, ◌-◌, ◌*◌, ◌^◌, ◌≤◌, ◌<◌, min}
use native.Mathlib.Nat.{zero-mul, suc-mul}
use native.Mathlib.Omega.{arith}
use lib.Dec.{leb}
use lib.ListN.{length, get_or, take, drop, drop_of_length-le}
use lib.Seq.{take_all, take-nil}
use borrow.Author.Tests.{leb-true, leb-false}
use Rattle.magnetar_matrix.specs.Packed.{packed_bit, login_part, login_words, public_part, public_words, z_of}
use Rattle.magnetar_r1cs.proofs.Split.{z-bit, z-public}
use Rattle.magnetar_relation.proofs.RangeLaws.{drop-cut, range-is}

-- ---- a login's words, its bits, and its z
-- the part from a to b, cut where the words end, is that of login u with k words
cut-part : (ws : List ℕ) (u k a b : ℕ) → a ≡ min (u * k) (length ws) → b ≡ min (a + k) (length ws) → take (b - a) (drop a ws) ≡ take k (drop (u * k) ws)
cut-part ws u k a b f g = range-is ws a k b g ∙ ap (take k) (ap (λ (i : ℕ). drop i ws) f ∙ drop-cut (u * k) ws)

pub part_cut : (w : ℕ) (ws : List ℕ) (u k a b : ℕ) → k ≡ login_words w → a ≡ min (u * k) (length ws) → b ≡ min (a + k) (length ws)
    → take (b - a) (drop a ws) ≡ login_part w ws u
unfolding login_part
part_cut w ws u k a b e f g = cut-part ws u k a b f g ∙ rw e

-- a login with more words than there are has all of them if it is the first, and none if it is another one
all-or-none : (x : List ℕ) (k l u : ℕ) → length x < k → length x < l → take k (drop (u * k) x) ≡ take l (drop (u * l) x)
all-or-none x k l zero h g = rw (zero-mul k, zero-mul l) (take_all k x (omega arith) ∙ sym (take_all l x (omega arith)))
all-or-none x k l (suc u) h g = none k h ∙ sym (none l g)
  where
    none : (n : ℕ) → length x < n → take n (drop (suc u * n) x) ≡ []
    none n b =
        let e : suc u * n ≡ u * n + n = suc-mul u n in
        rw (drop_of_length-le x {i = suc u * n} (omega (arith, e))) (take-nil n)

-- more witness columns than words are as good as any number of them
capped : (w : ℕ) (x : List ℕ) (u k : ℕ) → k ≡ public_words (min w (length x + 2)) → take k (drop (u * k) x) ≡ public_part w x u
unfolding public_part
capped w x u k e = go (leb w (length x + 2)) refl
  where
    go : (b : Bool) → leb w (length x + 2) ≡ b → take k (drop (u * k) x) ≡ take (public_words w) (drop (u * public_words w) x)
    go true t =
        let l : w ≤ length x + 2 = leb-true w (length x + 2) t in
        let f : k ≡ public_words w = omega (arith, l, e) in
        rw f
    go false t = let l : length x + 2 < w = leb-false w (length x + 2) t in all-or-none x k (public_words w) u (omega arith) (omega arith)

pub columns-cut : (w : ℕ) (x : List ℕ) (u k a b : ℕ) → k ≡ public_words (min w (length x + 2)) → a ≡ min (u * k) (length x) → b ≡ min (a + k) (length x)
    → take (b - a) (drop a x) ≡ public_part w x u
columns-cut w x u k a b e f g = cut-part x u k a b f g ∙ capped w x u k e

behind-one : (x : List ℕ) (j : ℕ) → 0 < j → get_or (1 ∷ x) j 0 ≡ get_or x (j - 1) 0
behind-one x zero h = absurd (omega arith)
behind-one x (suc j) h = let e : suc j - 1 ≡ j = omega arith in rw e

pub low_word : (b : ℕ) → 0 * 2 ^ 64 + b ≡ b
low_word b = omega arith

-- z at a column, of the login with the words ws
module _ (w : ℕ) (ws x : List ℕ) (c : ℕ) where
  pub z-is-bit : c < w → packed_bit ws c ≡ get_or (z_of w ws x) c 0
  unfolding z_of
  z-is-bit h = sym (z-bit w x ws c h)

  pub z-is-one : c ≡ w → 1 ≡ get_or (z_of w ws x) c 0
  unfolding z_of
  z-is-one e =
      let d : c - w ≡ 0 = omega arith in
      sym (z-public w x ws c (omega arith) ∙ rw d)

  pub z-is-public : w < c → get_or x (c - w - 1) 0 ≡ get_or (z_of w ws x) c 0
  unfolding z_of
  z-is-public h = sym (z-public w x ws c (omega arith) ∙ behind-one x (c - w) (omega arith))
