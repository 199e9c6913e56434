-- The list of a function's values: its length, its entries, and equality by entries.
-- Assumes nothing.
use Rattle.std.proofs.Common.{◌≡◌, ℕ, zero, suc, ◌<◌, ◌≤◌, List, ◌∷◌, length, get_or, sym, refl, ap, ◌∙◌, ap₂, suc-le-suc, le_of_suc-le-suc, not-suc-le-zero, zero-lt-suc, ext_get_or}
use lib.ListN.{get_or-eq_default}
use Rattle.magnetar_field.specs.Tabulate.{tabulate}

pub tabulate-length : {A : Type 0} (f : ℕ → A) (n : ℕ) → length (tabulate f n) ≡ n
unfolding tabulate
tabulate-length f zero = refl
tabulate-length f (suc n) = ap suc (tabulate-length (λ i. f (suc i)) n)

pub tabulate-get : {A : Type 0} (f : ℕ → A) (n i : ℕ) (d : A) → i < n → get_or (tabulate f n) i d ≡ f i
unfolding tabulate
tabulate-get f zero i d h = absurd (not-suc-le-zero h)
tabulate-get f (suc n) zero d h = refl
tabulate-get f (suc n) (suc i) d h = tabulate-get (λ j. f (suc j)) n i d (le_of_suc-le-suc h)

-- past the end
pub tabulate-out : {A : Type 0} (f : ℕ → A) (n i : ℕ) (d : A) → n ≤ i → get_or (tabulate f n) i d ≡ d
tabulate-out f n i d h = get_or-eq_default (tabulate f n) d (rw tabulate-length h)

pub tabulate-ext : {A : Type 0} (f g : ℕ → A) (n : ℕ) → ((i : ℕ) → i < n → f i ≡ g i) → tabulate f n ≡ tabulate g n
unfolding tabulate
tabulate-ext f g zero h = refl
tabulate-ext f g (suc n) h = ap₂ ◌∷◌ (h 0 (zero-lt-suc n)) (tabulate-ext (λ i. f (suc i)) (λ i. g (suc i)) n (λ i l. h (suc i) (suc-le-suc l)))

-- a list is the table of its entries
pub tabulate-of : {A : Type 0} (l : List A) (f : ℕ → A) (n : ℕ) (d : A) → length l ≡ n → ((i : ℕ) → i < n → get_or l i d ≡ f i) → l ≡ tabulate f n
tabulate-of l f n d e h =
    ext_get_or d l (tabulate f n) (e ∙ sym (tabulate-length f n)) (λ i k. h i (rw e at k) ∙ sym (tabulate-get f n i d (rw e at k)))
