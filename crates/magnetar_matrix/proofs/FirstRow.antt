-- The search for the first number, or row, of which a test is false.
-- Assumes nothing.
use mathlib.Core.Path.{◌≡◌, refl, sym, ◌∙◌}
use mathlib.Core.Bool.{Bool, true, false, false≢true}
use mathlib.Core.List.{List}
use Prim.Native.Nat.{ℕ, zero, suc, ◌+◌, ◌*◌, ◌≤◌, ◌<◌, suc-le-suc}
use native.Mathlib.Nat.{zero-lt-suc}
use native.Mathlib.Omega.{arith}
use lib.Dec.{eqb, ltb}
use borrow.Author.Tests.{eqb-true, eqb-false, ltb-true, ltb-false}
use lib.ListN.{length, get_or, get_or-eq_default}
use Rattle.magnetar_field.specs.Words.{elements}
use Rattle.magnetar_field.proofs.Product.{⊗-zero}
use Rattle.magnetar_field.proofs.Elements.{elements-length}
use Rattle.magnetar_matrix.specs.RowCheck.{first_not, holds_at}
use Rattle.magnetar_matrix.proofs.Verdicts.{first-before, first-not, first-none}

-- ---- the first number of which a test is false
pub first-ext : (f g : ℕ → Bool) (n : ℕ) → ((i : ℕ) → i < n → f i ≡ g i) → first_not f n ≡ first_not g n
unfolding first_not
first-ext f g zero h = refl
first-ext f g (suc n) h = rw (h 0 (zero-lt-suc n), first-ext (λ i. f (suc i)) (λ i. g (suc i)) n (λ i l. h (suc i) (suc-le-suc l)))

-- the test holds of all below i
abbrev pub Below : (ℕ → Bool) → ℕ → Type 0
Below f i = (j : ℕ) → j < i → f j ≡ true

pub below-start : (f : ℕ → Bool) → Below f 0
below-start f j h = absurd (omega arith)

pub below_more : (f : ℕ → Bool) (i : ℕ) → Below f i → f i ≡ true → Below f (i + 1)
below_more f i b e j h = go (eqb j i) refl
  where
    go : (t : Bool) → eqb j i ≡ t → f j ≡ true
    go true t = rw (eqb-true j i t) e
    go false t = let n = eqb-false j i t in b j (less j i h n)
      where
        less : (j i : ℕ) → j < i + 1 → (j ≡ i → ⊥) → j < i
        less j i h n = omega arith

pub first-is : (f : ℕ → Bool) (n i : ℕ) → i < n → Below f i → f i ≡ false → i ≡ first_not f n
first-is f n i h b e = go (ltb (first_not f n) i) refl (ltb i (first_not f n)) refl
  where
    go : (s : Bool) → ltb (first_not f n) i ≡ s → (t : Bool) → ltb i (first_not f n) ≡ t → i ≡ first_not f n
    go true s t q =
        let l : first_not f n < i = ltb-true _ _ s in
        absurd (false≢true (sym (first-not f n (omega arith)) ∙ b (first_not f n) l))
    go false s true q = absurd (false≢true (sym e ∙ first-before f n i (ltb-true _ _ q)))
    go false s false q =
        let l : i ≤ first_not f n = ltb-false _ _ s in
        let k : first_not f n ≤ i = ltb-false _ _ q in
        omega arith

pub first-end : (f : ℕ → Bool) (n i : ℕ) → i ≡ n → Below f i → n ≡ first_not f n
first-end f n i e b = sym (first-none f n (rw e at b))

-- rows past the end of the table hold
pub rows-past : (s : List ℕ) (n : ℕ) → length s < n → n ≡ first_not (holds_at (elements s) n) n
unfolding holds_at
rows-past s n h = first-end (holds_at (elements s) n) n n refl below
  where
    out : (j : ℕ) → get_or (elements s) (n + j) 0 ≡ 0
    out j = get_or-eq_default (elements s) 0 (rw (elements-length s) (omega (arith, h)))

    out-later : (j : ℕ) → get_or (elements s) (2 * n + j) 0 ≡ 0
    out-later j = get_or-eq_default (elements s) 0 (rw (elements-length s) (omega (arith, h)))

    below : Below (holds_at (elements s) n) n
    below j k = rw (out j, out-later j, ⊗-zero (get_or (elements s) j 0))
