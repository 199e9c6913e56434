-- A matrix without a column past w reads no public column: its public part is that of every login.
-- Assumes nothing.
use mathlib.Core.Path.{◌≡◌, refl}
use mathlib.Core.Bool.{Bool, true, false}
use mathlib.Core.List.{List, [], ◌∷◌}
use Prim.Native.Nat.{ℕ, ◌-◌, ◌≤◌}
use native.Mathlib.Omega.{arith}
use lib.Dec.{ltb, leb}
use borrow.Author.Tests.{leb-true}
use Rattle.magnetar_field.specs.Words.{words}
use Rattle.magnetar_field.proofs.Tabulation.{tabulate-ext}
use Rattle.magnetar_layout.specs.Every.{every}
use Rattle.magnetar_layout.proofs.EveryLaws.{both}
use Rattle.magnetar_matrix.specs.Matrix.{Entry, sum_over, row_total}
use Rattle.magnetar_matrix.specs.Table.{public_share, public_rows}

share-unread : (w : ℕ) (x y : List ℕ) (e : Entry) → e.col ≤ w → public_share w x e ≡ public_share w y e
unfolding public_share
share-unread w x y e h = go (ltb e.col w) refl
  where
    go : (b : Bool) → ltb e.col w ≡ b → public_share w x e ≡ public_share w y e
    go true t = rw t
    go false t = let z : e.col - w ≡ 0 = omega arith in rw (t, z)

row-unread : (w : ℕ) (x y : List ℕ) (es : List Entry) (i : ℕ) → every (λ e. leb e.col w) es ≡ true
    → row_total (public_share w x) es i ≡ row_total (public_share w y) es i
unfolding every row_total sum_over
row-unread w x y [] i a = refl
row-unread w x y (e ∷ es) i a =
    let b = both (leb e.col w) (every (λ e. leb e.col w) es) a in
    rw (share-unread w x y e (leb-true e.col w b.0), row-unread w x y es i b.1)

pub rows-unread : (w n : ℕ) (x y : List ℕ) (es : List Entry) → every (λ e. leb e.col w) es ≡ true
    → words (public_rows w x es n) ≡ words (public_rows w y es n)
rows-unread w n x y es a =
    rw (tabulate-ext (row_total (public_share w x) es) (row_total (public_share w y) es) n (λ i _. row-unread w x y es i a))
