-- The sum of products, the last product first.
-- Assumes nothing.
use mathlib.Core.Path.{◌≡◌, refl}
use mathlib.Core.Bool.{Bool, true, false}
use mathlib.Core.List.{List, [], ◌∷◌}
use Prim.Native.Nat.{ℕ, zero, suc, ◌-◌, ◌/◌, ◌≤◌, ◌<◌, min}
use native.Mathlib.Numerals.{sub-one}
use native.Mathlib.Omega.{arith}
use lib.Dec.{leb}
use borrow.Author.Tests.{leb-true, leb-false}
use lib.ListN.{length, get_or, drop, drop_of_length-le}
use lib.Seq.{drop-cons}
use Rattle.magnetar_field.specs.Gf128.{◌⊕◌, ◌⊗◌}
use Rattle.magnetar_field.specs.Words.{elements}
use Rattle.magnetar_multilinear.specs.Multilinear.{dot}
use Rattle.magnetar_field.proofs.Elements.{elements-length}

dot-no-left : (ys : List ℕ) → dot [] ys ≡ 0
unfolding dot
dot-no-left ys = refl

dot-no-right : (xs : List ℕ) → dot xs [] ≡ 0
unfolding dot
dot-no-right [] = refl
dot-no-right (x ∷ xs) = refl

-- nothing is left past the end of either
pub dot-none : (xs ys : List ℕ) (k : ℕ) → k ≡ min (length xs) (length ys) → dot (drop (k / 2) (elements xs)) (drop (k / 2) (elements ys)) ≡ 0
dot-none xs ys k e = go (leb (length xs) (length ys)) refl
  where
    go : (b : Bool) → leb (length xs) (length ys) ≡ b → dot (drop (k / 2) (elements xs)) (drop (k / 2) (elements ys)) ≡ 0
    go true t =
        let l : length xs ≤ length ys = leb-true _ _ t in
        let m : length (elements xs) ≤ k / 2 = rw elements-length (omega arith) in
        rw (drop_of_length-le (elements xs) {i = k / 2} m) (dot-no-left (drop (k / 2) (elements ys)))
    go false t =
        let l : length ys < length xs = leb-false _ _ t in
        let m : length (elements ys) ≤ k / 2 = rw elements-length (omega arith) in
        rw (drop_of_length-le (elements ys) {i = k / 2} m) (dot-no-right (drop (k / 2) (elements xs)))

dot-cons : (xs ys : List ℕ) (j : ℕ) → j < length xs → j < length ys
    → get_or xs j 0 ⊗ get_or ys j 0 ⊕ dot (drop (suc j) xs) (drop (suc j) ys) ≡ dot (drop j xs) (drop j ys)
unfolding dot
dot-cons xs ys j h g = rw (drop-cons xs j 0 h, drop-cons ys j 0 g)

pub dot-more : (xs ys : List ℕ) (j acc : ℕ) → 0 < j → j ≤ length xs → j ≤ length ys → acc ≡ dot (drop j xs) (drop j ys)
    → get_or xs (j - 1) 0 ⊗ get_or ys (j - 1) 0 ⊕ acc ≡ dot (drop (j - 1) xs) (drop (j - 1) ys)
dot-more xs ys zero acc pos h g e = absurd (omega arith)
dot-more xs ys (suc j) acc pos h g e = rw (sub-one, e) (dot-cons xs ys j h g)
