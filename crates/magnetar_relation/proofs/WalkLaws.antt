-- The walk over a part of the entries for all logins of a batch.
-- Assumes nothing.
use mathlib.Core.Path.{◌≡◌, refl, ◌∙◌}
use mathlib.Core.Bool.{true}
use mathlib.Core.List.{List}
use Prim.Native.Nat.{ℕ, ◌+◌, ◌-◌, ◌*◌, ◌≤◌, ◌<◌}
use native.Mathlib.Numerals.{add-one}
use lib.Dec.{leb}
use lib.ListN.{take, drop}
use borrow.Author.Tests.{ltb-true, leb-true}
use Rattle.magnetar_layout.proofs.EveryLaws.{both}
use Rattle.magnetar_matrix.specs.Matrix.{Entry, share}
use Rattle.magnetar_relation.specs.Steps.{added_to, login_z}
use Rattle.magnetar_relation.specs.EntryWalks.{fold_entries}
use Rattle.magnetar_relation.specs.LoginSteps.{within_limits, cleared_blocks, added_blocks, added_logins, products_in}

-- ---- within the limits
pub record Reach (q w n r : ℕ) : Type 0 where
  pub logins : q ≤ 4096
  pub cols : w ≤ 32768
  pub rows : n ≤ 65536
  pub row : r < n

pub reach : (q w n r : ℕ) → within_limits q w n r ≡ true → Reach q w n r
reach q w n r e =
    let a = both (leb q 4096) _ e in
    let b = both (leb w 32768) _ a.1 in
    let c = both (leb n 65536) _ b.1 in
    record { logins = leb-true q 4096 a.0; cols = leb-true w 32768 b.0; rows = leb-true n 65536 c.0; row = ltb-true r n c.1 }

-- ---- one entry, login after login
pub blocks-none : (k n : ℕ) (f : ℕ → Entry → ℕ) (e : Entry) (out : List ℕ) → out ≡ added_blocks k n f e 0 out
unfolding added_blocks
blocks-none k n f e out = refl

pub blocks-one : (k n : ℕ) (f : ℕ → Entry → ℕ) (e : Entry) (u v : ℕ) (out out' out₀ : List ℕ) → out ≡ added_blocks k n f e u out₀ → v ≡ f u e
    → out' ≡ added_to k (u * n + e.row) v out → out' ≡ added_blocks k n f e (u + 1) out₀
unfolding added_blocks
blocks-one k n f e u v out out' out₀ a b h = h ∙ rw (a, b, add-one)

-- ---- all entries from a to b
pub write-ends : (q w n a b k : ℕ) (ws x : List ℕ) (es part : List Entry) (out out₁ out₂ : List ℕ) → out₁ ≡ cleared_blocks q w n out
    → k ≡ b - a → part ≡ take k (drop a es) → out₂ ≡ fold_entries (added_logins q w n (λ u. share (login_z w ws x u))) part out₁
    → out₂ ≡ products_in q w n ws x (take (b - a) (drop a es)) out
unfolding products_in
write-ends q w n a b k ws x es part out out₁ out₂ c d p f = f ∙ rw (p, c, d)
