-- The product with z = (w, 1, x): the shares from the bits and from the public columns.
-- Assumes nothing.
use mathlib.Core.Path.{◌≡◌, refl, sym, ◌∙◌}
use mathlib.Core.Bool.{Bool, true, false, cond}
use mathlib.Core.List.{List, [], ◌∷◌, ◌++◌}
use Prim.Native.Nat.{ℕ, zero, suc, ◌+◌, ◌-◌, ◌≤◌, ◌<◌}
use native.Mathlib.Omega.{arith}
use lib.Dec.{eqb, ltb}
use borrow.Author.Tests.{ltb-true, ltb-false, lt-ltb, le-ltb}
use lib.ListN.{length, get_or, get_or-append}
use lib.Seq.{get_or-append-add}
use Rattle.magnetar_field.specs.Gf128.{◌⊕◌, ◌⊗◌}
use Rattle.magnetar_field.specs.Tabulate.{tabulate}
use Rattle.magnetar_field.specs.Words.{elements}
use Rattle.magnetar_field.proofs.Xor.{⊕-zero, zero-⊕, ⊕-four}
use Rattle.magnetar_field.proofs.Tabulation.{tabulate-length, tabulate-get, tabulate-ext}
use Rattle.magnetar_matrix.specs.Sum.{blocks}
use Rattle.magnetar_matrix.specs.Matrix.{Entry, Matrix, sum_over, row_total, share, times_at, times}
use Rattle.magnetar_matrix.specs.Batch.{PublicColumns, public_half, assignment, batch_products}
use Rattle.magnetar_matrix.specs.Packed.{packed_bit, login_part, public_part, unpacked, public_of, packed_table}
use Rattle.magnetar_matrix.specs.Lent.{Lent, entries_of, matrix_of}
use Rattle.magnetar_matrix.specs.Table.{public_share, bit_share, login_total, login_block}
use Rattle.magnetar_matrix.proofs.PublicParts.{public-of}

-- ---- one entry
public-at : (w : ℕ) (x : List ℕ) (e : Entry) → w ≤ e.col → public_share w x e ≡ e.value ⊗ get_or (1 ∷ x) (e.col - w) 0
unfolding public_share
public-at w x e h = rw (le-ltb e.col w h)

public-not : (w : ℕ) (x : List ℕ) (e : Entry) → e.col < w → public_share w x e ≡ 0
unfolding public_share
public-not w x e h = rw (lt-ltb e.col w h)

bit_at : (w : ℕ) (ws : List ℕ) (e : Entry) → e.col < w → bit_share w ws e ≡ e.value ⊗ packed_bit ws e.col
unfolding bit_share
bit_at w ws e h = rw (lt-ltb e.col w h)

bit_not : (w : ℕ) (ws : List ℕ) (e : Entry) → w ≤ e.col → bit_share w ws e ≡ 0
unfolding bit_share
bit_not w ws e h = rw (le-ltb e.col w h)

module _ (w : ℕ) (x ws : List ℕ) where
  -- the login's assignment
  abbrev z : List ℕ
  z = tabulate (packed_bit ws) w ++ (1 ∷ x)

  pub z-bit : (c : ℕ) → c < w → get_or z c 0 ≡ packed_bit ws c
  z-bit c h =
      get_or-append (tabulate (packed_bit ws) w) (1 ∷ x) 0 c (rw tabulate-length h) ∙ tabulate-get (packed_bit ws) w c 0 h

  pub z-public : (c : ℕ) → w ≤ c → get_or z c 0 ≡ get_or (1 ∷ x) (c - w) 0
  z-public c h =
      let l : length (tabulate (packed_bit ws) w) ≡ w = tabulate-length (packed_bit ws) w in
      let e : length (tabulate (packed_bit ws) w) + (c - w) ≡ c = omega arith in
      rw e at (get_or-append-add (tabulate (packed_bit ws) w) (1 ∷ x) (c - w) 0)

  split-share : (e : Entry) → public_share w x e ⊕ bit_share w ws e ≡ share z e
  unfolding share
  split-share e = go (ltb e.col w) refl
    where
      go : (b : Bool) → ltb e.col w ≡ b → public_share w x e ⊕ bit_share w ws e ≡ e.value ⊗ get_or z e.col 0
      go true t =
          let h : e.col < w = ltb-true e.col w t in
          rw (public-not w x e h, bit_at w ws e h, z-bit e.col h) (zero-⊕ (e.value ⊗ packed_bit ws e.col))
      go false t =
          let h : w ≤ e.col = ltb-false e.col w t in
          rw (public-at w x e h, bit_not w ws e h, z-public e.col h) (⊕-zero (e.value ⊗ get_or (1 ∷ x) (e.col - w) 0))

-- ---- sums of rows
cond-⊕ : (b : Bool) (a c : ℕ) → cond b a 0 ⊕ cond b c 0 ≡ cond b (a ⊕ c) 0
cond-⊕ true a c = refl
cond-⊕ false a c = zero-⊕ 0

total-⊕ : (f g h : Entry → ℕ) (es : List Entry) (i : ℕ) → ((e : Entry) → f e ⊕ g e ≡ h e) → row_total f es i ⊕ row_total g es i ≡ row_total h es i
unfolding row_total sum_over
total-⊕ f g h [] i q = zero-⊕ 0
total-⊕ f g h (e ∷ es) i q =
    ⊕-four (cond (eqb e.row i) (f e) 0) (row_total f es i) (cond (eqb e.row i) (g e) 0) (row_total g es i)
    ∙ rw (cond-⊕ (eqb e.row i) (f e) (g e), q e, total-⊕ f g h es i q)

-- ---- all logins
pub blocks-ext : (f g : ℕ → List ℕ) (q : ℕ) → ((u : ℕ) → u < q → f u ≡ g u) → blocks f q ≡ blocks g q
unfolding blocks
blocks-ext f g zero h = refl
blocks-ext f g (suc q) h = rw (blocks-ext f g q (λ u l. h u (omega arith)), h q (omega arith))

pub assigned : (q w : ℕ) (ws : List ℕ) (x : PublicColumns) (u : ℕ) → u < q
    → assignment (unpacked q w ws) x u ≡ tabulate (packed_bit (login_part w ws u)) w ++ public_half x u
unfolding assignment unpacked
assigned q w ws x u h = rw (tabulate-get (λ v. tabulate (packed_bit (login_part w ws v)) w) q u [] h)

pub table_is : (a : Matrix) (ws x : List ℕ) (q w : ℕ) → blocks (login_block w x ws a.entries a.rows) q ≡ packed_table a ws x q w
unfolding packed_table batch_products login_block times times_at login_total
table_is a ws x q w =
    blocks-ext (login_block w x ws a.entries a.rows) (λ u. times a (assignment (unpacked q w ws) (public_of q w x) u)) q
    (λ u h. let ls = login_part w ws u in
    let xs = elements (public_part w x u) in
    let z = tabulate (packed_bit ls) w ++ (1 ∷ xs) in
    rw (assigned q w ws (public_of q w x) u h, public-of q w x u h)
    (tabulate-ext (login_total w xs ls a.entries) (times_at a z) a.rows
    (λ i b. total-⊕ (public_share w xs) (bit_share w ls) (share z) a.entries i (split-share w xs ls))))

pub packed-is : (a : Lent) (ws x : List ℕ) (q w : ℕ)
    → blocks (login_block w x ws (entries_of a.row a.col a.lo a.hi) a.rows) q ≡ packed_table (matrix_of a) ws x q w
unfolding matrix_of
packed-is a ws x q w = table_is (matrix_of a) ws x q w

-- a table of products does not see how many columns there are
pub same-table : (n k l : ℕ) (es : List Entry) (ws x : List ℕ) (q w : ℕ)
    → packed_table (record { rows = n; cols = k; entries = es }) ws x q w ≡ packed_table (record { rows = n; cols = l; entries = es }) ws x q w
same-table n k l es ws x q w =
    sym (table_is (record { rows = n; cols = k; entries = es }) ws x q w) ∙ table_is (record { rows = n; cols = l; entries = es }) ws x q w
