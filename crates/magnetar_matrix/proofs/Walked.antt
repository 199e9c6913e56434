-- The walk over a matrix's entries that adds, at each entry's row, an amount to a table.
-- Assumes nothing.
use mathlib.Core.Path.{◌≡◌, refl, sym, ap, ◌∙◌}
use mathlib.Core.Bool.{Bool, true, false, cond}
use mathlib.Core.List.{List, [], ◌∷◌, map}
use Prim.Native.Nat.{ℕ, ◌+◌, ◌<◌}
use native.Mathlib.Omega.{arith}
use lib.Dec.{eqb}
use borrow.Author.Tests.{eqb-true, eqb-false}
use lib.ListN.{length, get_or, drop}
use Rattle.magnetar_field.specs.Gf128.{◌⊕◌}
use Rattle.magnetar_field.proofs.Xor.{⊕-zero, zero-⊕, ⊕-assoc}
use Rattle.magnetar_matrix.specs.Matrix.{Entry, swapped, sum_over, row_total}
use Rattle.magnetar_layout.specs.Every.{every}
use Rattle.magnetar_layout.proofs.EveryLaws.{Left}
use Rattle.magnetar_matrix.specs.Lent.{entry, entries_of}
use Rattle.magnetar_matrix.specs.Table.{added_at, raised}
use Rattle.magnetar_matrix.proofs.TableLaws.{added-length, added-here, added-there, raised_is}

-- ---- with rows and columns exchanged
pub entries-swapped : (r c l h : List ℕ) → entries_of c r l h ≡ map swapped (entries_of r c l h)
unfolding entries_of
entries-swapped [] [] l h = refl
entries-swapped [] (y ∷ c) l h = refl
entries-swapped (x ∷ r) [] l h = refl
entries-swapped (x ∷ r) (y ∷ c) [] h = refl
entries-swapped (x ∷ r) (y ∷ c) (z ∷ l) [] = refl
entries-swapped (x ∷ r) (y ∷ c) (z ∷ l) (u ∷ h) = ap (λ (es : List Entry). entry y x z u ∷ es) (entries-swapped r c l h)

-- ---- the walk
-- what is left of the entries, added to t, gives what all of them, added to t₀, give
pub record Walked (f : Entry → ℕ) (es : List Entry) (t₀ t : List ℕ) (i : ℕ) : Type 0 where
  pub size : length t ≡ length t₀
  pub total : (y : ℕ) → y < length t₀ → get_or t y 0 ⊕ row_total f (drop i es) y ≡ get_or t₀ y 0 ⊕ row_total f es y

pub walked_start : (f : Entry → ℕ) (es : List Entry) (t : List ℕ) → Walked f es t t 0
walked_start f es t = record { size = refl; total = λ y h. refl }

one-added : (t : List ℕ) (k v y rest : ℕ) → y < length t → (b : Bool) → eqb k y ≡ b
    → get_or (added_at t k v) y 0 ⊕ rest ≡ get_or t y 0 ⊕ (cond b v 0 ⊕ rest)
one-added t k v y rest h true q = rw (eqb-true k y q, added-here t y v h) (⊕-assoc (get_or t y 0) v rest)
one-added t k v y rest h false q = rw (added-there t k v y (λ s. eqb-false k y q (sym s)), zero-⊕ rest)

one_more : (f : Entry → ℕ) (e : Entry) (es : List Entry) (t : List ℕ) (y : ℕ) → y < length t
    → get_or (added_at t e.row (f e)) y 0 ⊕ row_total f es y ≡ get_or t y 0 ⊕ row_total f (e ∷ es) y
unfolding row_total sum_over
one_more f e es t y h = one-added t e.row (f e) y (row_total f es y) h (eqb e.row y) refl

module _ (f : Entry → ℕ) (es : List Entry) (t₀ t : List ℕ) (i : ℕ) (k : Walked f es t₀ t i) where
  pub walked_more : (e : Entry) → drop i es ≡ e ∷ drop (i + 1) es → Walked f es t₀ (added_at t e.row (f e)) (i + 1)
  walked_more e d = record {
    size = added-length t e.row (f e) ∙ k.size;
    total = λ y h. one_more f e (drop (i + 1) es) t y (omega (arith, k.size)) ∙ rw (← d) (k.total y h);
  }

  pub walked_end : drop i es ≡ [] → t ≡ raised (row_total f es) t₀
  walked_end d = raised_is (row_total f es) t₀ t k.size (λ y h. last y ∙ k.total y h)
    where
      last : (y : ℕ) → get_or t y 0 ≡ get_or t y 0 ⊕ row_total f (drop i es) y
      last y = rw d (none (get_or t y 0) y)
        where
          none : (a y : ℕ) → a ≡ a ⊕ row_total f [] y
          none a y = unfold row_total sum_over in sym (⊕-zero a)

-- ---- the walk that sums
-- what is left of the entries, added to the sum so far, gives the sum over all of them
abbrev pub Summed : (Entry → ℕ) → List Entry → ℕ → ℕ → Type 0
Summed f es sum i = sum ⊕ sum_over f (drop i es) ≡ sum_over f es

pub summed-start : (f : Entry → ℕ) (es : List Entry) → Summed f es 0 0
summed-start f es = zero-⊕ (sum_over f es)

module _ (f : Entry → ℕ) (es : List Entry) (sum i : ℕ) (k : Summed f es sum i) where
  pub summed-more : (e : Entry) → drop i es ≡ e ∷ drop (i + 1) es → Summed f es (sum ⊕ f e) (i + 1)
  unfolding sum_over
  summed-more e d = ⊕-assoc sum (f e) (sum_over f (drop (i + 1) es)) ∙ (rw d at k)

  pub summed-end : drop i es ≡ [] → sum ≡ sum_over f es
  unfolding sum_over
  summed-end d = sym (⊕-zero sum) ∙ (rw d at k)

-- ---- the walk that tests
module _ (p : Entry → Bool) (es : List Entry) (i : ℕ) (k : Left p es i) where
  pub tested-more : (e : Entry) → drop i es ≡ e ∷ drop (i + 1) es → p e ≡ true → Left p es (i + 1)
  unfolding every
  tested-more e d t = rw (d, t) at k

  pub tested-not : (e : Entry) → drop i es ≡ e ∷ drop (i + 1) es → p e ≡ false → false ≡ every p es
  unfolding every
  tested-not e d t = rw (d, t) at k

  pub tested-end : drop i es ≡ [] → true ≡ every p es
  unfolding every
  tested-end d = rw d at k
