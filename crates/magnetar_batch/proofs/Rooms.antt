-- One slice that holds a table and, behind it, other elements.
-- Assumes nothing.
use Rattle.std.specs.Prelude.{◌≡◌, ℕ, zero, suc, ◌+◌, ◌-◌, ◌*◌, ◌^◌, List, [], ◌∷◌, ◌++◌, length, take, drop}
use mathlib.Core.Path.{refl, ap}
use mathlib.Core.List.{append-nil}
use native.Mathlib.Omega.{arith}
use lib.ListN.{length-drop, drop_of_length-le}
use lib.Seq.{take_all}
use lib.Pow.{split}
use borrow.Rule.Slice.PartMut.{put_mid}
use Rattle.magnetar_field.specs.Words.{elements, words}

-- ---- the part behind the first k words, lent and back
pub back-part : (s : List ℕ) (k : ℕ) → take (length s - k) (drop k s) ≡ drop k s
back-part s k = take_all (length s - k) (drop k s) (rw length-drop (omega arith))

pub back-put : (s u : List ℕ) (k : ℕ) → put_mid k (length s - k) s u ≡ take k s ++ u
back-put s u k =
    let e : drop (length s - k) (drop k s) ≡ [] = drop_of_length-le (drop k s) {i = length s - k} (rw length-drop (omega arith)) in
    rw (e, append-nil)

-- ---- elements
two-suc : (i : ℕ) → 2 * suc i ≡ suc (suc (2 * i))
two-suc i = omega arith

pub elements-take : (k : ℕ) (s : List ℕ) → take k (elements s) ≡ elements (take (2 * k) s)
unfolding elements
elements-take zero s = refl
elements-take (suc k) [] = rw two-suc
elements-take (suc k) (x ∷ []) = rw two-suc (one (2 * k))
  where
    one : (n : ℕ) → ◌≡◌ {A = List ℕ} [] (elements (take (suc (suc n)) (x ∷ [])))
    one n = refl
elements-take (suc k) (x ∷ (y ∷ s)) = rw two-suc (ap (λ (l : List ℕ). (y * 2 ^ 64 + x) ∷ l) (elements-take k s))

pub elements-behind : (vs b : List ℕ) → elements (words vs ++ b) ≡ vs ++ elements b
unfolding elements words
elements-behind [] b = refl
elements-behind (v ∷ vs) b = rw (split v 64, elements-behind vs b)
